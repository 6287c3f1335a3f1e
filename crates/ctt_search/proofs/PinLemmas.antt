-- Pins on all places.
use Rattle.std.proofs.Common.{◌≡◌, ℕ, ◌+◌, ◌<◌, ◌≤◌, Bool, true, false, ◌&&◌, ◌||◌, ◌==◌, List, refl, ◌∙◌, ap, ap₂, arith, inl, inr}
use Rattle.std.specs.Prelude.{nat_lt}
use Rattle.std.proofs.lemmas.Bool.{cases_eq, eq-eqb, lt-ltb, le-ltb}
use Rattle.ctt_problem.specs.BitRows.{BitTable, is_marked_in, AddsMarks}
use Rattle.ctt_problem.specs.Marks.{is_marked}

-- marks on the numbers below a count
module _ (marks old : List ℕ) (count : ℕ) (are : (n : ℕ) → is_marked marks n ≡ (is_marked old n || nat_lt n count)) (none : (n : ℕ) → is_marked old n ≡ false) where
  pub not_past : (n : ℕ) → count ≤ n → is_marked marks n ≡ false
  not_past n le = are n ∙ ap (λ b. b || nat_lt n count) (none n) ∙ le-ltb n count le

  pub each_before : (n : ℕ) → n < count → is_marked marks n ≡ true
  each_before n lt = are n ∙ ap (λ b. b || nat_lt n count) (none n) ∙ lt-ltb n count lt

or_true : (b : Bool) → (b || true) ≡ true
or_true true = refl
or_true false = refl

-- one more row
pub row_pinned : (old new : BitTable) (marks : List ℕ) (row count : ℕ) → AddsMarks old new (λ r n. r == row && is_marked marks n) → ((n : ℕ) → n < count → is_marked marks n ≡ true) → ((s : ℕ) → s < row → (n : ℕ) → n < count → is_marked_in old s n ≡ true)
    → (s : ℕ) → s < row + 1 → (n : ℕ) → n < count → is_marked_in new s n ≡ true
row_pinned old new marks row count adds all before s lt n ln = elim (cases_eq s row) [
  | inl same ↦ adds.marks s n ∙ ap₂ (λ a b. is_marked_in old s n || (a && b)) (eq-eqb s row same) (all n ln) ∙ or_true (is_marked_in old s n)
  | inr other ↦ adds.marks s n ∙ ap (λ b. b || (s == row && is_marked marks n)) (before s (omega (arith, lt, other)) n ln)
]
