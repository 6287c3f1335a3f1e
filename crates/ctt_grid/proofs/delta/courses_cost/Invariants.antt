use Rattle.std.proofs.Common.{◌≡◌, ◌*◌, ◌≤◌, cond}
use Rattle.ctt_problem.specs.Lists.{sum_below}
use Rattle.ctt_rules.specs.Penalty.{course_cost, total}
use Rattle.ctt_board.specs.Costs.{touches}
use Rattle.ctt_grid.proofs.delta.courses_cost.Given as goal

abbrev pub invariant-loop-number : goal.invariant-loop-number
invariant-loop-number g l = record {
  so_far : l.total ≡ sum_below (λ c. cond (touches l.cells c) (total (course_cost l.after.problem l.after.list c)) 0) l.number;
  small : l.total ≤ l.number * 3000000000000;
}
