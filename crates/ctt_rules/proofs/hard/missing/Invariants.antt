use Rattle.std.proofs.Common.{◌≡◌, ◌+◌, ◌-◌, ◌*◌, ◌≤◌, length}
use Rattle.ctt_problem.specs.Lists.{sum_below}
use Rattle.ctt_problem.specs.Problem.{course_of}
use Rattle.ctt_problem.specs.Timetable.{course_row}
use Rattle.ctt_rules.specs.Rows.{from_course}
use Rattle.ctt_rules.proofs.hard.missing.Given as goal

abbrev pub invariant-loop-number : goal.invariant-loop-number
invariant-loop-number l = record {
  rest : l.rest ≡ from_course l.number l.timetable;
  so_far : l.total ≡ sum_below (λ c. ((course_of l.instance c).lectures - length (course_row c l.timetable)) + (length (course_row c l.timetable) - (course_of l.instance c).lectures)) l.number;
  small : l.total ≤ l.number * 1000002000;
}
