-- The marked rows, one by one.
use Rattle.std.proofs.Common.{◌≡◌, ℕ, zero, suc, ◌+◌, ◌<◌, ◌≤◌, Bool, false, cond, ◌||◌, List, [], ◌∷◌, ◌++◌, map, Some, None, inl, inr, refl, ◌∙◌, sym, add-one, append-nil, ap, ap₂, arith}
use Rattle.std.proofs.lemmas.List.{map-append, append_assoc}
use Rattle.std.proofs.lemmas.Bool.{cases_lt}
use Rattle.ctt_problem.specs.Marks.{IsLeast}
use Rattle.ctt_problem.specs.Lists.{below}
use Rattle.ctt_problem.specs.Problem.{Problem, course_count, slot_count}
use Rattle.ctt_edits.specs.Calls.{reads_course, reads_slot, reads}
use Rattle.ctt_edits.specs.RowSets.{RowSet, has_course, has_slot, is_in, rows_of, AddsReads, between}
use Rattle.ctt_edits.specs.declared.call.Call.{Call}
use Rattle.ctt_edits.specs.declared.row.Row.{Row}
use Rattle.ctt_edits.proofs.GatherLemmas.{found, inside}
use Rattle.ctt_edits.specs.declared.row.Row.TheVariants.{Course as CourseRow, Slot as SlotRow}

-- no number from n on, and below m, passes
below_skip : (p : ℕ → Bool) (n m : ℕ) → n ≤ m → ((k : ℕ) → n ≤ k → k < m → p k ≡ false) → below p m ≡ below p n
below_skip p n zero le none = let same : zero ≡ n = omega (arith, le) in ap (below p) same
below_skip p n (suc m) le none = elim (cases_lt m n) [
  | inl past ↦ (let same : suc m ≡ n = omega (arith, le, past) in ap (below p) same)
  | inr more ↦ rw (none m more (omega arith)) (append-nil (below p m) ∙ below_skip p n m more (λ k a b. none k a (omega (arith, b))))
]

-- the next number that passes, and no further one
pub row_more : {X : Type 0} (f : ℕ → X) (p : ℕ → Bool) (from end k n : ℕ) (so_far now : List X) (front : List X) → IsLeast (between from end p) (Some k) → n ≡ k → so_far ≡ front ++ map f (below p from) → now ≡ so_far ++ f k ∷ [] → (now ≡ front ++ map f (below p (n + 1))) × (n + 1 ≤ end)
row_more f p from end k n so_far now front least same s e =
    let at = found p from end k least.0 in
    let skipped : below p k ≡ below p from = below_skip p from k at.0 (λ m le lt. inside p from end m (least.1 m lt) le (omega (arith, lt, at.1))) in
    let mapped : map f (below p (k + 1)) ≡ map f (below p from) ++ f k ∷ [] = rw (add-one, at.2) (map-append f (below p k) (k ∷ []) ∙ ap (λ ks. map f ks ++ f k ∷ []) skipped) in
    (e ∙ ap (λ xs. xs ++ f k ∷ []) s ∙ append_assoc front (map f (below p from)) (f k ∷ []) ∙ ap (λ xs. front ++ xs) (sym mapped) ∙ ap (λ m. front ++ map f (below p (m + 1))) (sym same), omega (arith, same, at.1))

pub row_done : {X : Type 0} (f : ℕ → X) (p : ℕ → Bool) (from end : ℕ) (so_far front : List X) → from ≤ end → IsLeast (between from end p) None → so_far ≡ front ++ map f (below p from) → so_far ≡ front ++ map f (below p end)
row_done f p from end so_far front le none s = s ∙ ap (λ ks. front ++ map f ks) (sym (below_skip p from end le (λ k a b. inside p from end k (none k) a b)))

-- the numbers below n that pass are those that pass another test that says the same there
pub below_same : (p q : ℕ → Bool) (n : ℕ) → ((k : ℕ) → k < n → p k ≡ q k) → below p n ≡ below q n
below_same p q zero h = refl
below_same p q (suc n) h = ap₂ (λ a b. a ++ cond b (n ∷ []) []) (below_same p q n (λ k lt. h k (omega (arith, lt)))) (h n (omega arith))

-- the rows of one call, added to none
pub rows_read : (i : Problem) (call : Call) (none all : RowSet) → ((r : Row) → is_in none r ≡ false) → AddsReads i call none all → rows_of i all ≡ reads i call
rows_read i call none all empty h =
    ap₂ (λ courses slots. map CourseRow courses ++ map SlotRow slots)
    (below_same (has_course all) (reads_course i call) (course_count i) (λ c lt. h.courses c lt ∙ ap (λ b. b || reads_course i call c) (empty (CourseRow c))))
    (below_same (has_slot all) (reads_slot call) (slot_count i) (λ s lt. h.slots s lt ∙ ap (λ b. b || reads_slot call s) (empty (SlotRow s))))
