-- The lectures in a slot, gathered by marks on their courses.
use Rattle.std.proofs.Common.{◌≡◌, ◌∙◌, ℕ, zero, suc, ◌+◌, ◌<◌, ◌≤◌, Bool, true, false, ◌&&◌, leb, ltb, List, ◌++◌, Option, Some, None, is_some, add-one, append-nil, sym, ap, arith, inl, inr}
use Rattle.std.proofs.lemmas.Bool.{cases_eq}
use Rattle.std.proofs.lemmas.Bool.Decides.{nat_tests}
use Rattle.ctt_problem.specs.Marks.{IsLeast}
use Rattle.ctt_problem.specs.declared.placed.Placed.{Placed}
use Rattle.ctt_board.specs.Cells.{lecture_at, column_below}

inside : (from end k : ℕ) (b : Bool) → (ltb k end && (leb from k && b)) ≡ false → from ≤ k → k < end → b ≡ false
inside from end k b e le lt = grind (arith, nat_tests)

found : (from end k : ℕ) (b : Bool) → (ltb k end && (leb from k && b)) ≡ true → (from ≤ k) × (k < end)
found from end k b e = (grind (arith, nat_tests), grind (arith, nat_tests))

module _ (f : ℕ → Option ℕ) (p : ℕ → Bool) (marks : (c : ℕ) → p c ≡ is_some (f c)) (s : ℕ) where
  -- courses that are not marked add none
  column_skip : (m n : ℕ) → m ≤ n → ((c : ℕ) → m ≤ c → c < n → p c ≡ false) → column_below f s n ≡ column_below f s m
  column_skip m zero le none = (let same : 0 ≡ m = omega (arith, le) in ap (column_below f s) same)
  column_skip m (suc n) le none = elim (cases_eq m (suc n)) [
    | inl same ↦ ap (column_below f s) (sym same)
    | inr other ↦ (
        let less : m ≤ n = omega (arith, le, other) in
        nothing (column_below f s n) (f n) (sym (marks n) ∙ none n less (omega arith)) ∙ column_skip m n less (λ c a b. none c a (omega (arith, b))))
  ]
    where
      nothing : (xs : List Placed) (o : Option ℕ) → is_some o ≡ false → xs ++ lecture_at n s o ≡ xs
      nothing xs None h = append-nil xs
      nothing xs (Some r) h = cc

  -- the next marked course
  pub column_more : (from end k : ℕ) → IsLeast (λ n. ltb n end && (leb from n && p n)) (Some k) → column_below f s (k + 1) ≡ column_below f s from ++ lecture_at k s (f k)
  column_more from end k h =
      let at = found from end k (p k) h.0 in
      rw add-one (ap (λ xs. xs ++ lecture_at k s (f k)) (column_skip from k at.0 (λ c le lt. inside from end c (p c) (h.1 c lt) le (omega (arith, lt, at.1)))))

  -- and past the last one
  pub column_end : (from end : ℕ) → IsLeast (λ n. ltb n end && (leb from n && p n)) None → from ≤ end → column_below f s end ≡ column_below f s from
  column_end from end h le = column_skip from end le (λ c past lt. inside from end c (p c) (h c) past lt)
