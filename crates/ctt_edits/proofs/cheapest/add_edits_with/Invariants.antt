use Rattle.std.proofs.Common.{◌≡◌}
use Rattle.std.specs.List.{AllByRecursion as Each}
use Rattle.ctt_edits.specs.Candidates.{from_to, edits_with, n_cheapest}
use Rattle.ctt_edits.specs.Edits.{EditFits}
use Rattle.ctt_edits.specs.Patterns.{feasible}
use Rattle.ctt_edits.proofs.cheapest.add_edits_with.Given as goal

abbrev pub invariant-loop-second : goal.invariant-loop-second
invariant-loop-second g l =
    (n_cheapest l.count l.list.items (feasible (g.S.Rooms.problem l.sheet) (g.S.Rooms.list l.sheet) (edits_with l.pattern (from_to l.second l.seconds.end) l.first))
    ≡ n_cheapest l.count l.fn.list.items (feasible (g.S.Rooms.problem l.sheet) (g.S.Rooms.list l.sheet) (edits_with l.pattern (from_to l.seconds.start l.seconds.end) l.first)))
    × Each (EditFits (g.S.Rooms.problem l.sheet)) (edits_with l.pattern (from_to l.second l.seconds.end) l.first)
