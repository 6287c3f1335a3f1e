use Rattle.std.proofs.Common.{inr, refl}
use Rattle.ctt_files.proofs.KeptLemmas.{blocked_kept}
use Rattle.ctt_files.proofs.refused.refuse_blocked.Goals as goal

pub returns-in-Ok : goal.returns-in-Ok
returns-in-Ok c = inr (c.in-Ok.point, c.in-Ok.ensures, rw (blocked_kept c.args.met c.in_default.not-NoMemory) refl)
