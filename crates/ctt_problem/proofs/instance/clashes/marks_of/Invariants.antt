use Rattle.std.proofs.Common.{◌≡◌, ℕ, take}
use Rattle.ctt_problem.specs.Lists.{has}
use Rattle.ctt_problem.specs.Marks.{is_marked}
use Rattle.ctt_problem.proofs.instance.clashes.marks_of.Given as goal

abbrev pub invariant-loop-member : goal.invariant-loop-member
invariant-loop-member l = (n : ℕ) → is_marked l.marks n ≡ has n (take l.member-index l.members)
