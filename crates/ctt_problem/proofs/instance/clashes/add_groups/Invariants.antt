use Rattle.std.proofs.Common.{take, ◌&&◌}
use Rattle.std.specs.List.{list_any}
use Rattle.ctt_problem.specs.Lists.{has}
use Rattle.ctt_problem.specs.BitRows.{AddsMarks}
use Rattle.ctt_problem.proofs.instance.clashes.add_groups.Given as goal

-- the marks of the groups so far
abbrev pub invariant-loop-members : goal.invariant-loop-members
invariant-loop-members l = AddsMarks l.fn.rows l.rows (λ c d. list_any (λ q. has c q.items && has d q.items) (take l.members-index l.groups))
