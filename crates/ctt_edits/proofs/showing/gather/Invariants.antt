use Rattle.std.proofs.Common.{◌≡◌, ◌≤◌, ◌-◌}
use Rattle.ctt_problem.specs.Marks.{is_marked}
use Rattle.ctt_problem.specs.Problem.{course_count}
use Rattle.ctt_edits.proofs.GatherLemmas.{part_below}
use Rattle.ctt_edits.proofs.showing.gather.Given as goal

abbrev pub invariant-loop-number : goal.invariant-loop-number
invariant-loop-number g l = (l.list.items ≡ part_below (is_marked l.courses) l.from (g.S.Rooms.list l.sheet)) × (l.from ≤ course_count (g.S.Rooms.problem l.sheet))

abbrev pub decreases-loop-number : goal.decreases-loop-number
decreases-loop-number g l = course_count (g.S.Rooms.problem l.sheet) - l.from
