use Rattle.std.proofs.Common.{◌≡◌, ℕ, take}
use Rattle.ctt_problem.specs.Lists.{has}
use Rattle.ctt_problem.specs.Marks.{is_marked}
use Rattle.ctt_findings.proofs.compactness.members_of.Given as goal

abbrev pub invariant-loop-course : goal.invariant-loop-course
invariant-loop-course l = (c : ℕ) → is_marked l.courses c ≡ has c (take l.course-index l.course-items)
