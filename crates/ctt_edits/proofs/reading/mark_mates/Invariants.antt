use Rattle.std.proofs.Common.{◌≡◌, ℕ, ◌||◌, take}
use Rattle.std.specs.List.{list_any}
use Rattle.ctt_problem.specs.Lists.{has}
use Rattle.ctt_problem.specs.Marks.{is_marked}
use Rattle.ctt_problem.specs.Problem.{members}
use Rattle.ctt_edits.proofs.reading.mark_mates.Given as goal

abbrev pub invariant-loop-curriculum : goal.invariant-loop-curriculum
invariant-loop-curriculum l = (n : ℕ) → is_marked l.marks n ≡ (is_marked l.initial.marks n || list_any (λ q. has n (members l.instance q)) (take l.curriculum-index l.curriculum-items))
