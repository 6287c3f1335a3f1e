use Rattle.std.proofs.Common.{◌≡◌, ◌≤◌, ◌*◌, take, sum_by}
use Rattle.ctt_grid.specs.CostDelta.{stands_alone, alone_beside}
use Rattle.ctt_grid.specs.Seen.{seen_curriculum}
use Rattle.ctt_grid.proofs.compactness_delta.compactness_delta.Given as goal

abbrev pub invariant-loop-curriculum : goal.invariant-loop-curriculum
invariant-loop-curriculum l = record {
  alone : l.alone ≡ sum_by (λ q. stands_alone l.instance (seen_curriculum l.instance l.counts q) l.slot) (take l.curriculum-index l.curricula);
  lone_neighbours : l.lone_neighbours ≡ sum_by (λ q. alone_beside l.instance (seen_curriculum l.instance l.counts q) l.slot) (take l.curriculum-index l.curricula);
  few : l.alone ≤ l.curriculum-index;
  bound : l.lone_neighbours ≤ l.curriculum-index * 10;
}
