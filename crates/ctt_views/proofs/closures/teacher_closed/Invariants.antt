use Rattle.std.proofs.Common.{◌≡◌, true, take}
use Rattle.std.specs.List.{list_all}
use Rattle.ctt_problem.specs.Problem.{is_closed}
use Rattle.ctt_views.proofs.closures.teacher_closed.Given as goal

abbrev pub invariant-loop-course : goal.invariant-loop-course
invariant-loop-course l = list_all (λ c. is_closed l.instance c l.slot) (take l.course-index l.course-items) ≡ true
