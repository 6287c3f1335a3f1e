use Rattle.std.proofs.Common.{take, ◌&&◌}
use Rattle.ctt_problem.specs.Lists.{has}
use Rattle.ctt_problem.specs.BitRows.{AddsMarks}
use Rattle.ctt_problem.proofs.instance.clashes.add_group.Given as goal

-- the marks in the rows of the members so far
abbrev pub invariant-loop-member : goal.invariant-loop-member
invariant-loop-member l = AddsMarks l.fn.rows l.rows (λ c d. has c (take l.member-index l.members) && has d l.members)
