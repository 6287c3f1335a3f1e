use Rattle.std.proofs.Common.{◌≡◌}
use Rattle.std.specs.List.{AllByRecursion as Each}
use Rattle.ctt_edits.specs.Candidates.{from_to, edits_by, n_cheapest}
use Rattle.ctt_edits.specs.Edits.{EditFits}
use Rattle.ctt_edits.specs.Patterns.{feasible}
use Rattle.ctt_edits.proofs.cheapest.add_edits.Given as goal

abbrev pub invariant-loop-first : goal.invariant-loop-first
invariant-loop-first g l =
    (n_cheapest l.count l.list.items (feasible (g.S.Rooms.problem l.sheet) (g.S.Rooms.list l.sheet) (edits_by l.pattern (from_to l.first l.firsts.end) (from_to l.seconds.start l.seconds.end)))
    ≡ n_cheapest l.count l.fn.list.items (feasible (g.S.Rooms.problem l.sheet) (g.S.Rooms.list l.sheet) (edits_by l.pattern (from_to l.firsts.start l.firsts.end) (from_to l.seconds.start l.seconds.end))))
    × Each (EditFits (g.S.Rooms.problem l.sheet)) (edits_by l.pattern (from_to l.first l.firsts.end) (from_to l.seconds.start l.seconds.end))
