-- A property of each element of a list, by its index.
use Rattle.std.proofs.Common.{◌≡◌, ◌<◌, ℕ, zero, suc, List, [], ◌∷◌, ◌++◌, length, get_or, IfSome, subst, sym, arith}
use Rattle.std.specs.Prelude.{slice_get}

module _ {X : Type 0} where
  -- a list with one more element
  pub one_more : (P : ℕ → X → Type 0) (xs : List X) (x : X) → ((n : ℕ) → IfSome (slice_get xs n) (P n)) → P (length xs) x → (n : ℕ) → IfSome (slice_get (xs ++ x ∷ []) n) (P n)
  one_more P [] x each this zero = this
  one_more P [] x each this (suc n) = each n
  one_more P (y ∷ ys) x each this zero = each zero
  one_more P (y ∷ ys) x each this (suc n) = one_more (λ k. P (suc k)) ys x (λ k. each (suc k)) this n

  -- one of the elements
  pub known_at : (P : ℕ → X → Type 0) (xs : List X) (n : ℕ) (x : X) → n < length xs → x ≡ get_or xs n x → ((k : ℕ) → IfSome (slice_get xs k) (P k)) → P n x
  known_at P [] n x lt is each = absurd (omega arith)
  known_at P (y ∷ ys) zero x lt is each = subst (P zero) (sym is) (each zero)
  known_at P (y ∷ ys) (suc n) x lt is each = known_at (λ k. P (suc k)) ys n x (omega (arith, lt)) is (λ k. each (suc k))
