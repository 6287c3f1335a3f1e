use Rattle.std.proofs.Common.{inr, refl}
use Rattle.ctt_files.proofs.KeptLemmas.{solution_kept}
use Rattle.ctt_files.proofs.refused.refuse_solution.Goals as goal

pub returns-in-Ok : goal.returns-in-Ok
returns-in-Ok c = inr (c.in-Ok.point, c.in-Ok.ensures, rw (solution_kept c.args.met c.in_default.not-NoMemory) refl)
