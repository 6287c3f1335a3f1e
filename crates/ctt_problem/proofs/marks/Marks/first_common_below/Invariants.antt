use Rattle.std.proofs.Common.{◌≡◌, ◌<◌, ◌/◌, ℕ, false}
use Rattle.ctt_problem.proofs.MarkLemmas.{in_both}
use Rattle.ctt_problem.proofs.marks.Marks.first_common_below.Given as goal

abbrev pub invariant-loop-place : goal.invariant-loop-place
invariant-loop-place l = (n : ℕ) → n / 64 < l.place → in_both l.self-inside.words l.other-inside.words n ≡ false
