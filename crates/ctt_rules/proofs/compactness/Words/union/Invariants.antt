use Rattle.std.proofs.Common.{◌≡◌, ℕ, take}
use Rattle.std.specs.List.{list_any}
use Rattle.ctt_rules.specs.Windows.{has_bit, word_of}
use Rattle.ctt_rules.proofs.compactness.Words.union.Given as goal

abbrev pub invariant-loop-course : goal.invariant-loop-course
invariant-loop-course l = (place : ℕ) → has_bit l.union place ≡ list_any (λ c. has_bit (word_of l.self c) place) (take l.course-index l.courses)
