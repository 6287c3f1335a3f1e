use Rattle.std.proofs.Common.{◌≡◌, ◌≤◌, take, count_by}
use Rattle.ctt_grid.specs.CostDelta.{in_room}
use Rattle.ctt_grid.proofs.counts_after.in_room.Given as goal

abbrev pub invariant-loop-lecture : goal.invariant-loop-lecture
invariant-loop-lecture l = record {
  so_far : l.count ≡ count_by (in_room l.course l.room) (take l.lecture-index l.lectures);
  few : l.count ≤ l.lecture-index;
}
