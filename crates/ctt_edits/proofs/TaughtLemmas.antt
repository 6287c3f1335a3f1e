-- The courses of a teacher, and all courses, as marks.
use Rattle.std.proofs.Common.{◌≡◌, ℕ, zero, suc, ◌<◌, ◌≤◌, Bool, true, false, cond, ◌&&◌, ◌||◌, ◌==◌, nat_lt, [], ◌∷◌, inl, inr, refl, ◌∙◌, ap, arith}
use Rattle.std.specs.List.{list_any}
use Rattle.std.proofs.lemmas.List.Folds.{list_any-append}
use Rattle.std.proofs.lemmas.Bool.{cases_eq, lt-ltb, le-ltb, eq-eqb, ne_eqb}
use Rattle.ctt_problem.specs.Lists.{below, has}
use Rattle.ctt_problem.proofs.NumberListLemmas.{below_fit}
use Rattle.ctt_edits.proofs.PastLemmas.{has_past, no_more}

-- a number below the end is in the list exactly if it passes
pub has_below : (p : ℕ → Bool) (m n : ℕ) → n < m → has n (below p m) ≡ p n
has_below p zero n lt = absurd (omega (arith, lt))
has_below p (suc m) n lt = list_any-append (λ x. x == n) (below p m) (cond (p m) (m ∷ []) []) ∙ ap (λ b. has n (below p m) || b) (last (p m)) ∙ elim (cases_eq m n) [
  | inl same ↦ rw (has_past m n (below p m) (omega (arith, same)) (below_fit p m), eq-eqb m n same) (and_true (p m) ∙ ap p same)
  | inr other ↦ rw (has_below p m n (omega (arith, lt, other)), ne_eqb m n other) (no_more (p n) (p m && false) (and_false (p m)))
]
  where
    last : (b : Bool) → list_any (λ x. x == n) (cond b (m ∷ []) []) ≡ (b && m == n)
    last true = no_more (m == n) false refl
    last false = refl

    and_true : (b : Bool) → (b && true) ≡ b
    and_true true = refl
    and_true false = refl

    and_false : (b : Bool) → (b && false) ≡ false
    and_false true = refl
    and_false false = refl

-- numbers below a count
pub below_all : (a : Bool) (n m count : ℕ) → m ≡ count → n < count → (a || nat_lt n m) ≡ (a || true)
below_all a n m count e lt = ap (λ b. a || b) (ap (nat_lt n) e ∙ lt-ltb n count lt)

pub above_none : (a : Bool) (n m count : ℕ) → m ≡ count → count ≤ n → (a || nat_lt n m) ≡ a
above_none a n m count e le = no_more a (nat_lt n m) (ap (nat_lt n) e ∙ le-ltb n count le)
