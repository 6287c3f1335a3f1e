-- One more slot of a row.
use Rattle.std.proofs.Common.{◌≡◌, ℕ, zero, suc, ◌+◌, ◌<◌, ◌≤◌, length, [], ◌∷◌, ◌++◌, Option, Some, None, refl, ap, arith, inl, inr, add-one, append-nil}
use Rattle.std.proofs.lemmas.Bool.{cases_eq}
use Rattle.std.proofs.lemmas.List.{length-append}
use Rattle.ctt_board.specs.Cells.{lecture_at, row_below}

-- one more slot of a row
pub row_more_some : (f : ℕ → Option ℕ) (c n r : ℕ) → f n ≡ Some r → row_below f c (n + 1) ≡ row_below f c n ++ record { course = c; slot = n; room = r } ∷ []
row_more_some f c n r e = rw (add-one, e) refl

pub row_more_none : (f : ℕ → Option ℕ) (c n : ℕ) → f n ≡ None → row_below f c (n + 1) ≡ row_below f c n
row_more_none f c n e = rw (add-one, e) (append-nil (row_below f c n))

-- fewer slots have no more lectures
row_shorter : (f : ℕ → Option ℕ) (c m n : ℕ) → m ≤ n → length (row_below f c m) ≤ length (row_below f c n)
row_shorter f c m zero le = (let none : m ≡ 0 = omega (arith, le) in omega (arith, ap (λ k. length (row_below f c k)) none))
row_shorter f c m (suc n) le = elim (cases_eq m (suc n)) [
  | inl same ↦ omega (arith, ap (λ k. length (row_below f c k)) same)
  | inr other ↦ omega (arith, row_shorter f c m n (omega (arith, le, other)), length-append (row_below f c n) (lecture_at c n (f n)))
]

-- a lecture and those of the slots before it are no more than those of the row
pub row_has : (f : ℕ → Option ℕ) (c n m r : ℕ) → n < m → f n ≡ Some r → length (row_below f c n) + 1 ≤ length (row_below f c m)
row_has f c n m r lt e = omega (arith, row_shorter f c (n + 1) m (omega (arith, lt)), ap length (row_more_some f c n r e), length-append (row_below f c n) (record { course = c; slot = n; room = r } ∷ []))
