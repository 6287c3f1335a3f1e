use Rattle.std.proofs.Common.{refl}
use Rattle.ctt_commands.proofs.comparing.shape_of.Goals as goal

pub returns : goal.returns
returns c = rw (c.is_any_blocked.ensures, c.has_faults.ensures) refl
