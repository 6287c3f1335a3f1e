use Rattle.std.proofs.Common.{◌≡◌, ◌≤◌, take, count_by}
use Rattle.ctt_grid.specs.CostDelta.{on_day}
use Rattle.ctt_grid.proofs.counts_after.on_day.Given as goal

abbrev pub invariant-loop-lecture : goal.invariant-loop-lecture
invariant-loop-lecture l = record {
  so_far : l.count ≡ count_by (on_day l.instance l.course l.day) (take l.lecture-index l.lectures);
  few : l.count ≤ l.lecture-index;
}
