use Rattle.std.proofs.Common.{◌≡◌, ◌≤◌, ◌*◌}
use Rattle.ctt_problem.specs.Lists.{sum_below}
use Rattle.ctt_search.specs.Scores.{changes_of}
use Rattle.ctt_search.proofs.score.count_changes.Given as goal

abbrev pub invariant-loop-number : goal.invariant-loop-number
invariant-loop-number g l = record {
  so_far : l.total ≡ sum_below (changes_of (g.S.Rooms.problem l.sheet) (g.S.Rooms.list l.start) (g.S.Rooms.list l.sheet)) l.number;
  few : l.total ≤ l.number * 2000;
}
