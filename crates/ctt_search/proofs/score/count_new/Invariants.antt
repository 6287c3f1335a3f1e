use Rattle.std.proofs.Common.{◌≡◌, ◌≤◌}
use Rattle.ctt_problem.specs.Lists.{count_below}
use Rattle.ctt_search.specs.Scores.{is_new}
use Rattle.ctt_search.proofs.score.count_new.Given as goal

abbrev pub invariant-loop-number : goal.invariant-loop-number
invariant-loop-number g l = record {
  so_far : l.count ≡ count_below (is_new (g.S.Rooms.list l.start) (g.S.Rooms.list l.sheet) l.course) l.number;
  few : l.count ≤ l.number;
}
