use Rattle.std.proofs.Common.{◌≡◌, ◌≤◌, map}
use Rattle.ctt_problem.specs.Lists.{below}
use Rattle.ctt_problem.specs.Problem.{course_count}
use Rattle.ctt_edits.specs.Missing.{is_short, shortfall}
use Rattle.ctt_edits.proofs.missing.missing.Given as goal

abbrev pub invariant-loop-number : goal.invariant-loop-number
invariant-loop-number g l =
    (l.list.items ≡ map (shortfall (g.S.Rooms.problem l.sheet) (g.S.Rooms.list l.sheet)) (below (is_short (g.S.Rooms.problem l.sheet) (g.S.Rooms.list l.sheet)) l.number))
    × (l.number ≤ course_count (g.S.Rooms.problem l.sheet))
