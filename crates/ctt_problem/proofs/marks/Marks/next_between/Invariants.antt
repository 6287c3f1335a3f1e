use Rattle.std.proofs.Common.{◌≡◌, ◌<◌, ◌/◌, ℕ, ◌&&◌, nat_le, false}
use Rattle.ctt_problem.specs.Marks.{is_marked}
use Rattle.ctt_problem.proofs.marks.Marks.next_between.Given as goal

abbrev pub invariant-loop-place : goal.invariant-loop-place
invariant-loop-place l = (n : ℕ) → n / 64 < l.place → (nat_le l.first n && is_marked l.words n) ≡ false
