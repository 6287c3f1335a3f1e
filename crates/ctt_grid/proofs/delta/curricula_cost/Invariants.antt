use Rattle.std.proofs.Common.{◌≡◌, ◌*◌, ◌≤◌, cond, take, sum_by}
use Rattle.ctt_rules.specs.Penalty.{alone_cost, lectures_of}
use Rattle.ctt_board.specs.Costs.{touches_curriculum}
use Rattle.ctt_grid.proofs.delta.curricula_cost.Given as goal

abbrev pub invariant-loop-number : goal.invariant-loop-number
invariant-loop-number g l = record {
  so_far : l.total ≡ sum_by (λ q. cond (touches_curriculum l.cells q) (alone_cost l.after.problem (lectures_of q l.after.list)) 0) (take l.number l.after.problem.curricula);
  small : l.total ≤ l.number * 8000000;
}
