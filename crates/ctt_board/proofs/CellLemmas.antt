-- A timetable is the list of its cells.
use Rattle.std.proofs.Common.{◌≡◌, ℕ, zero, suc, ◌<◌, ◌≤◌, true, false, ◌==◌, ltb, List, ◌++◌, Option, refl, ◌∙◌, sym, ap₂, arith}
use Rattle.std.specs.List.{filter, AllByRecursion as Each}
use Rattle.std.proofs.lemmas.Bool.{lt-ltb, le-ltb}
use Rattle.std.proofs.lemmas.Bool.Decides.{nat_tests}
use Rattle.ctt_problem.specs.Problem.{Problem, course_count, slot_count}
use Rattle.ctt_problem.specs.Timetable.{before, IsTimetable, Fits, course_row, slot_row}
use Rattle.ctt_problem.specs.declared.placed.Placed.{Placed}
use Rattle.ctt_problem.proofs.TimetableLemmas.{Each-map}
use Rattle.ctt_rules.proofs.ListLemmas.{Pairwise-map, filter_none, filter_every, Each-filter, Pairwise-filter, Each-filter_passes}
use Rattle.ctt_rules.proofs.TimetableLemmas.{row_by_slot}
use Rattle.ctt_board.specs.Changes.{room_at}
use Rattle.ctt_board.specs.Cells.{lecture_at, row_below, rows_below, column_below}
use Rattle.ctt_board.proofs.PutLemmas.{filter_filter}
use Rattle.ctt_board.proofs.RowLemmas.{split_at, one_slot, course_row_is}

rows_are : (i : Problem) (t : List Placed) (n : ℕ) → IsTimetable i t → filter (λ l. ltb l.course n) t ≡ rows_below (λ c s. room_at c s t) (slot_count i) n
rows_are i t zero h = filter_none (λ l. ltb l.course 0) t (Each-map (Fits i) (λ l. ltb l.course 0 ≡ false) (λ l k. le-ltb l.course 0 (omega arith)) t h.fits)
rows_are i t (suc n) h =
    split_at (λ (l : Placed). l.course) n t (Pairwise-map (λ a b. before a b ≡ true) (λ (a b : Placed). a.course ≤ b.course) (λ a b k. grind (arith, nat_tests)) t h.ascending)
    ∙ ap₂ (λ a b. a ++ b) (rows_are i t n h) (course_row_is i t n h)

-- a timetable is what its cells say
pub timetable_is : (i : Problem) (t : List Placed) → IsTimetable i t → t ≡ rows_below (λ c s. room_at c s t) (slot_count i) (course_count i)
timetable_is i t h =
    let courses : Each (λ (l : Placed). ltb l.course (course_count i) ≡ true) t = Each-map (Fits i) (λ (l : Placed). ltb l.course (course_count i) ≡ true) (λ l f. lt-ltb l.course (course_count i) f.0) t h.fits in
    sym (filter_every (λ (l : Placed). ltb l.course (course_count i)) t courses) ∙ rows_are i t (course_count i) h

-- cells that are the same list the same
pub row_same : (f g : ℕ → Option ℕ) (c n : ℕ) → ((s : ℕ) → s < n → f s ≡ g s) → row_below f c n ≡ row_below g c n
row_same f g c zero e = refl
row_same f g c (suc n) e = ap₂ (λ a b. a ++ lecture_at c n b) (row_same f g c n (λ s lt. e s (omega (arith, lt)))) (e n (omega arith))

pub rows_same : (f g : ℕ → ℕ → Option ℕ) (m n : ℕ) → ((c s : ℕ) → c < n → s < m → f c s ≡ g c s) → rows_below f m n ≡ rows_below g m n
rows_same f g m zero e = refl
rows_same f g m (suc n) e = ap₂ (λ a b. a ++ b) (rows_same f g m n (λ c s lt k. e c s (omega (arith, lt)) k)) (row_same (f n) (g n) n m (λ s lt. e n s (omega arith) lt))

pub column_same : (s : ℕ) (f g : ℕ → Option ℕ) (n : ℕ) → ((c : ℕ) → c < n → f c ≡ g c) → column_below f s n ≡ column_below g s n
column_same s f g zero e = refl
column_same s f g (suc n) e = ap₂ (λ a b. a ++ lecture_at n s b) (column_same s f g n (λ c lt. e c (omega (arith, lt)))) (e n (omega arith))

-- the lectures in a slot, course by course
module _ (i : Problem) (t : List Placed) (s : ℕ) (h : IsTimetable i t) where
  pub one_course : (n : ℕ) → filter (λ l. l.course == n) (slot_row s t) ≡ lecture_at n s (room_at n s t)
  one_course n = filter_filter (λ (l : Placed). l.course == n) (λ (l : Placed). l.slot == s) t ∙ one_slot n s (course_row n t) (Each-filter_passes (λ l. l.course == n) t) (row_by_slot n t h.ascending)

  column_is : (n : ℕ) → filter (λ l. ltb l.course n) (slot_row s t) ≡ column_below (λ c. room_at c s t) s n
  column_is zero = filter_none (λ l. ltb l.course 0) (slot_row s t) (Each-map (Fits i) (λ l. ltb l.course 0 ≡ false) (λ l k. le-ltb l.course 0 (omega arith)) (slot_row s t) (Each-filter (Fits i) (λ l. l.slot == s) t h.fits))
  column_is (suc n) =
      split_at (λ (l : Placed). l.course) n (slot_row s t) (Pairwise-map (λ a b. before a b ≡ true) (λ (a b : Placed). a.course ≤ b.course) (λ a b k. grind (arith, nat_tests)) (slot_row s t) (Pairwise-filter (λ a b. before a b ≡ true) (λ l. l.slot == s) t h.ascending))
      ∙ ap₂ (λ a b. a ++ b) (column_is n) (one_course n)

  pub slot_row_is : slot_row s t ≡ column_below (λ c. room_at c s t) s (course_count i)
  slot_row_is =
      let courses : Each (λ (l : Placed). ltb l.course (course_count i) ≡ true) (slot_row s t) = Each-map (Fits i) (λ (l : Placed). ltb l.course (course_count i) ≡ true) (λ l f. lt-ltb l.course (course_count i) f.0) (slot_row s t) (Each-filter (Fits i) (λ l. l.slot == s) t h.fits) in
      sym (filter_every (λ (l : Placed). ltb l.course (course_count i)) (slot_row s t) courses) ∙ column_is (course_count i)
