use Rattle.std.proofs.Common.{◌≡◌, ◌≤◌, take, count_by}
use Rattle.ctt_problem.specs.Problem.{members}
use Rattle.ctt_grid.specs.CostDelta.{in_slot}
use Rattle.ctt_grid.proofs.counts_after.in_slot.Given as goal

abbrev pub invariant-loop-lecture : goal.invariant-loop-lecture
invariant-loop-lecture l = record {
  so_far : l.count ≡ count_by (in_slot (members l.instance l.curriculum) l.slot) (take l.lecture-index l.lectures);
  few : l.count ≤ l.lecture-index;
}
