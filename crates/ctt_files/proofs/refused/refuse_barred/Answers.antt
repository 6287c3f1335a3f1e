use Rattle.std.proofs.Common.{inr, refl}
use Rattle.ctt_files.proofs.KeptLemmas.{barred_kept}
use Rattle.ctt_files.proofs.refused.refuse_barred.Goals as goal

pub returns-in-Ok : goal.returns-in-Ok
returns-in-Ok c = inr (c.in-Ok.point, c.in-Ok.ensures, rw (barred_kept c.args.met c.in_default.not-NoMemory) refl)
