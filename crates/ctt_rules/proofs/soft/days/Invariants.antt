use Rattle.std.proofs.Common.{◌≡◌, ◌*◌, ◌≤◌}
use Rattle.ctt_problem.specs.Lists.{sum_below}
use Rattle.ctt_problem.specs.Timetable.{course_row}
use Rattle.ctt_rules.specs.Penalty.{days_cost}
use Rattle.ctt_rules.specs.Rows.{from_course}
use Rattle.ctt_rules.proofs.soft.days.Given as goal

abbrev pub invariant-loop-number : goal.invariant-loop-number
invariant-loop-number l = record {
  rest : l.rest ≡ from_course l.number l.timetable;
  so_far : l.total ≡ sum_below (λ c. days_cost l.instance c (course_row c l.timetable)) l.number;
  small : l.total ≤ l.number * (5 * 999999999);
}
