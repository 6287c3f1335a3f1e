use Rattle.std.proofs.Common.{◌≡◌, ◌+◌, ◌-◌, ◌*◌, ◌≤◌, length}
use Rattle.ctt_problem.specs.Lists.{sum_below}
use Rattle.ctt_problem.specs.Problem.{course_of}
use Rattle.ctt_problem.specs.Timetable.{course_row}
use Rattle.ctt_search.proofs.score.count_missing.Given as goal

abbrev pub invariant-loop-number : goal.invariant-loop-number
invariant-loop-number g l = record {
  so_far : l.total ≡ sum_below (λ c. ((course_of (g.S.Rooms.problem l.sheet) c).lectures - length (course_row c (g.S.Rooms.list l.sheet))) + (length (course_row c (g.S.Rooms.list l.sheet)) - (course_of (g.S.Rooms.problem l.sheet) c).lectures)) l.number;
  small : l.total ≤ l.number * 4294967296;
}
