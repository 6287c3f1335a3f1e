-- No count of a timetable is large.
use Rattle.std.proofs.Common.{refl, cond, false, [], ◌∷◌, ◌+◌, ◌≡◌, ℕ, zero, suc, ◌≤◌, Bool, true, ◌==◌, List, length, Option, Some, None, ap, arith}
use Rattle.std.specs.List.{count_by}
use Rattle.std.proofs.lemmas.Bool.{and_parts}
use Rattle.std.proofs.lemmas.List.{length-append}
use Rattle.std.proofs.lemmas.List.Sums.{length-filter}
use Rattle.ctt_problem.specs.Problem.{Problem, IsProblem, slot_count, day_of}
use Rattle.ctt_problem.specs.Timetable.{IsTimetable, course_row}
use Rattle.ctt_problem.specs.declared.placed.Placed.{Placed}
use Rattle.ctt_board.specs.Cells.{lecture_at, row_below}
use Rattle.ctt_board.specs.Changes.{room_at}
use Rattle.ctt_grid.specs.Counts.{AreCounts, HaveRoom}
use Rattle.ctt_grid.specs.CostDelta.{on_day, in_room}
use Rattle.ctt_grid.specs.declared.counts.Counts.{Counts}
use Rattle.ctt_rules.proofs.SumLemmas.{count_by-cons}
use Rattle.ctt_board.proofs.RowLemmas.{course_row_is}

-- of two tests, the narrower one counts no more
count_le : {X : Type 0} (p q : X → Bool) (xs : List X) → ((x : X) → p x ≡ true → q x ≡ true) → count_by p xs ≤ count_by q xs
count_le p q [] h = omega arith
count_le p q (x ∷ xs) h = by (p x) (q x) (h x) (count_le p q xs h)
  where
    by : (a b : Bool) → (a ≡ true → b ≡ true) → count_by p xs ≤ count_by q xs → count_by p (x ∷ xs) ≤ count_by q (x ∷ xs)
    by a b k le = step (p x) (q x) (h x) (count_by p (x ∷ xs)) (count_by q (x ∷ xs)) (count_by-cons p x xs) (count_by-cons q x xs)
      where
        step : (a b : Bool) → (a ≡ true → b ≡ true) → (n m : ℕ) → n ≡ cond a 1 0 + count_by p xs → m ≡ cond b 1 0 + count_by q xs → n ≤ m
        step true true k n m e f = omega (arith, e, f, le)
        step true false k n m e f = (let z : false ≡ true = k refl in cc)
        step false true k n m e f = omega (arith, e, f, le)
        step false false k n m e f = omega (arith, e, f, le)

one_at_most : (c s : ℕ) (o : Option ℕ) → length (lecture_at c s o) ≤ 1
one_at_most c s None = omega arith
one_at_most c s (Some r) = omega arith

row_short : (f : ℕ → Option ℕ) (c n : ℕ) → length (row_below f c n) ≤ n
row_short f c zero = omega arith
row_short f c (suc n) = omega (arith, length-append (row_below f c n) (lecture_at c n (f n)), row_short f c n, one_at_most c n (f n))

module _ (i : Problem) (t : List Placed) (is : IsTimetable i t) (p : IsProblem i) where
  course_short : (c : ℕ) → length (course_row c t) ≤ 2000
  course_short c = omega (arith, ap length (course_row_is i t c is), row_short (λ s. room_at c s t) c (slot_count i), p.slots_few)

  of_course : (q : Placed → Bool) (c : ℕ) → ((l : Placed) → q l ≡ true → (l.course == c) ≡ true) → count_by q t ≤ 2000
  of_course q c h = omega (arith, count_le q (λ l. l.course == c) t h, length-filter (λ l. l.course == c) t, course_short c)

-- so adding one does not overflow
pub have_room : (i : Problem) (t : List Placed) (c : Counts) → AreCounts i t c → IsTimetable i t → IsProblem i → HaveRoom c
have_room i t c h is p = record {
  lectures = λ r k lr lk. omega (arith, h.lectures.counts r k (omega (arith, lr, h.lectures.size.0)) (omega (arith, lk, h.lectures.size.1)), course_short i t is p k);
  days = λ r k lr lk. omega (arith, h.days.counts r k (omega (arith, lr, h.days.size.0)) (omega (arith, lk, h.days.size.1)), of_course i t is p (on_day i r k) r (λ l e. (and_parts (l.course == r) (day_of i l.slot == k) e).0));
  rooms = λ r k lr lk. omega (arith, h.rooms.counts r k (omega (arith, lr, h.rooms.size.0)) (omega (arith, lk, h.rooms.size.1)), of_course i t is p (in_room r k) r (λ l e. (and_parts (l.course == r) (l.room == k) e).0));
}
