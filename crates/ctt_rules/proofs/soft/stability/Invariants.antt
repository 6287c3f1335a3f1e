use Rattle.std.proofs.Common.{◌≡◌, ◌*◌, ◌≤◌}
use Rattle.ctt_problem.specs.Lists.{sum_below}
use Rattle.ctt_problem.specs.Timetable.{course_row}
use Rattle.ctt_rules.specs.Penalty.{rooms_cost}
use Rattle.ctt_rules.specs.Rows.{from_course}
use Rattle.ctt_rules.proofs.soft.stability.Given as goal

abbrev pub invariant-loop-number : goal.invariant-loop-number
invariant-loop-number l = record {
  rest : l.rest ≡ from_course l.number l.timetable;
  so_far : l.total ≡ sum_below (λ c. rooms_cost l.instance (course_row c l.timetable)) l.number;
  small : l.total ≤ l.number * (1000);
}
