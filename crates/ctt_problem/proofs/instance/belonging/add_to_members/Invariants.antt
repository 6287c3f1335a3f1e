use Rattle.std.proofs.Common.{map, take}
use Rattle.ctt_problem.specs.Lists.{has}
use Rattle.ctt_problem.specs.NumberLists.{AddsNumber}
use Rattle.ctt_problem.proofs.instance.belonging.add_to_members.Given as goal

abbrev pub invariant-loop-member : goal.invariant-loop-member
invariant-loop-member l = AddsNumber (map (λ v. v.items) l.fn.lists) (map (λ v. v.items) l.lists) l.curriculum (λ c. has c (take l.member-index l.members))
