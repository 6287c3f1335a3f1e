use Rattle.std.proofs.Common.{◌≡◌, ◌+◌}
use Rattle.ctt_search.proofs.wandering.wander.Given as goal

abbrev pub invariant-loop-steps : goal.invariant-loop-steps
invariant-loop-steps g l = record {
  problem : g.S.Rooms.problem l.sheet ≡ g.S.Rooms.problem l.initial.sheet;
  told : g.P.Pace.passed l.pace ≡ g.P.Pace.passed l.initial.pace + l.steps;
}
