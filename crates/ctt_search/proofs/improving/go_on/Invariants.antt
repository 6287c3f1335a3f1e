use Rattle.std.proofs.Common.{◌≡◌, ◌+◌, ◌-◌, ◌≤◌}
use Rattle.ctt_search.specs.Wishes.{IsFound}
use Rattle.ctt_search.proofs.improving.go_on.Given as goal

abbrev pub invariant-rounds : goal.invariant-rounds
invariant-rounds g l = record {
  problem : g.S.Rooms.problem l.sheet ≡ g.S.Rooms.problem l.start;
  told : g.P.Pace.passed l.pace ≡ g.P.Pace.passed l.initial.pace + l.steps;
  few : l.steps ≤ l.wish.steps;
  found : IsFound (g.S.Rooms.problem l.start) (g.S.Rooms.problem l.best.sheet) l.aim l.wish.pins l.wish.most_changes (g.S.Rooms.list l.start) (g.S.Rooms.list l.best.sheet) l.best.score;
}

abbrev pub decreases-rounds : goal.decreases-rounds
decreases-rounds g l = l.wish.steps - l.steps
