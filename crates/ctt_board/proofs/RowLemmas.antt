-- The row of a course, slot by slot.
use Rattle.std.proofs.Common.{◌≡◌, ℕ, zero, suc, ◌<◌, ◌≤◌, true, false, ◌==◌, eqb, ltb, List, [], ◌∷◌, ◌++◌, Some, refl, ◌∙◌, sym, ap, ap₂, arith, inl, inr}
use Rattle.std.specs.List.{filter, find, AllByRecursion as Each}
use Rattle.std.proofs.lemmas.Bool.{cases_eq, cases_order, eq-eqb, ne_eqb, eqb-true, lt-ltb, le-ltb}
use Rattle.ctt_problem.specs.Lists.{Pairwise}
use Rattle.ctt_problem.specs.Problem.{Problem, slot_count}
use Rattle.ctt_problem.specs.Timetable.{before, IsTimetable, Fits, course_row}
use Rattle.ctt_problem.specs.declared.placed.Placed.{Placed}
use Rattle.ctt_problem.proofs.TimetableLemmas.{Each-map}
use Rattle.ctt_rules.proofs.ListLemmas.{Pairwise-map, filter_none, filter_every, filter_within, Pairwise-filter, Each-filter_passes}
use Rattle.ctt_rules.proofs.TimetableLemmas.{row_fits, row_by_slot}
use Rattle.ctt_rules.specs.Penalty.{course_cost, row_cost}
use Rattle.ctt_board.specs.Changes.{room_at, room_of}
use Rattle.ctt_board.specs.Cells.{lecture_at, row_below}

-- of a list in the order of a key, those below n + 1 are those below n and then those at n
pub split_at : {X : Type 0} (key : X → ℕ) (n : ℕ) (xs : List X) → Pairwise (λ a b. key a ≤ key b) xs → filter (λ x. ltb (key x) (suc n)) xs ≡ filter (λ x. ltb (key x) n) xs ++ filter (λ x. key x == n) xs
split_at key n [] h = refl
split_at key n (x ∷ xs) h = elim (cases_order (key x) n) [
  | inl same ↦ (
      let a : ltb (key x) (suc n) ≡ true = lt-ltb (key x) (suc n) (omega arith) in
      let b : ltb (key x) n ≡ false = le-ltb (key x) n (omega arith) in
      let e : (key x == n) ≡ true = eq-eqb (key x) n same in
      let none : filter (λ y. ltb (key y) n) xs ≡ [] = filter_none (λ y. ltb (key y) n) xs (Each-map (λ y. key x ≤ key y) (λ y. ltb (key y) n ≡ false) (λ y le. le-ltb (key y) n (omega arith)) xs h.0) in
      let rest = split_at key n xs h.1 in
      rw (a, b, e, none) (ap (λ ys. x ∷ ys) (rest ∙ ap (λ ys. ys ++ filter (λ y. key y == n) xs) none)))
  | inr (inl less) ↦ (
      let a : ltb (key x) (suc n) ≡ true = lt-ltb (key x) (suc n) (omega arith) in
      let b : ltb (key x) n ≡ true = lt-ltb (key x) n less in
      let e : (key x == n) ≡ false = ne_eqb (key x) n (λ k. omega arith) in
      rw (a, b, e) (ap (λ ys. x ∷ ys) (split_at key n xs h.1)))
  | inr (inr more) ↦ (
      let a : ltb (key x) (suc n) ≡ false = le-ltb (key x) (suc n) more in
      let b : ltb (key x) n ≡ false = le-ltb (key x) n (omega arith) in
      let e : (key x == n) ≡ false = ne_eqb (key x) n (λ k. omega arith) in
      rw (a, b, e) (split_at key n xs h.1))
]

-- the lecture of a row in one slot
pub one_slot : (c s : ℕ) (ls : List Placed) → Each (λ (l : Placed). (l.course == c) ≡ true) ls → Pairwise (λ (a b : Placed). a.slot < b.slot) ls → filter (λ (l : Placed). l.slot == s) ls ≡ lecture_at c s (room_of (find (λ (l : Placed). l.slot == s) ls))
one_slot c s [] h p = refl
one_slot c s (x ∷ xs) h p = elim (cases_eq x.slot s) [
  | inl same ↦ (
      let e : (x.slot == s) ≡ true = eq-eqb x.slot s same in
      let none : filter (λ (l : Placed). l.slot == s) xs ≡ [] = filter_none (λ (l : Placed). l.slot == s) xs (Each-map (λ (y : Placed). x.slot < y.slot) (λ (y : Placed). eqb y.slot s ≡ false) (λ y lt. ne_eqb y.slot s (λ k. omega arith)) xs p.0) in
      rw (e, none) (ap₂ (λ a b. lecture_at a b (Some x.room)) (eqb-true x.course c h.0) same))
  | inr other ↦ (let e : (x.slot == s) ≡ false = ne_eqb x.slot s other in rw e (one_slot c s xs h.1 p.1))
]

-- a row, slot by slot
row_is : (c n : ℕ) (ls : List Placed) → Each (λ (l : Placed). (l.course == c) ≡ true) ls → Pairwise (λ (a b : Placed). a.slot < b.slot) ls → filter (λ (l : Placed). ltb l.slot n) ls ≡ row_below (λ s. room_of (find (λ (l : Placed). l.slot == s) ls)) c n
row_is c zero ls h p = filter_none (λ (l : Placed). ltb l.slot 0) ls (Each-map (λ (l : Placed). (l.course == c) ≡ true) (λ (l : Placed). ltb l.slot 0 ≡ false) (λ l k. le-ltb l.slot 0 (omega arith)) ls h)
row_is c (suc n) ls h p =
    split_at (λ (l : Placed). l.slot) n ls (Pairwise-map (λ (a b : Placed). a.slot < b.slot) (λ (a b : Placed). a.slot ≤ b.slot) (λ a b lt. omega arith) ls p)
    ∙ ap₂ (λ a b. a ++ b) (row_is c n ls h p) (one_slot c n ls h p)

-- the row of a course is what its cells say
pub course_row_is : (i : Problem) (t : List Placed) (c : ℕ) → IsTimetable i t → course_row c t ≡ row_below (λ s. room_at c s t) c (slot_count i)
course_row_is i t c h =
    let slots : Each (λ (l : Placed). ltb l.slot (slot_count i) ≡ true) (course_row c t) = Each-map (Fits i) (λ (l : Placed). ltb l.slot (slot_count i) ≡ true) (λ l f. lt-ltb l.slot (slot_count i) f.1) (course_row c t) (row_fits i t c h) in
    sym (filter_every (λ (l : Placed). ltb l.slot (slot_count i)) (course_row c t) slots) ∙ row_is c (slot_count i) (course_row c t) (Each-filter_passes (λ l. l.course == c) t) (row_by_slot c t h.ascending)

-- a row is a timetable, whose row of that course is the row itself
pub row_is_timetable : (i : Problem) (t : List Placed) (c : ℕ) → IsTimetable i t → IsTimetable i (course_row c t)
row_is_timetable i t c h = record { ascending = Pairwise-filter (λ a b. before a b ≡ true) (λ l. l.course == c) t h.ascending; fits = row_fits i t c h }

pub row_of_row : (t : List Placed) (c : ℕ) → course_row c (course_row c t) ≡ course_row c t
row_of_row t c = filter_within (λ l. l.course == c) (λ l. l.course == c) t (λ l k. k)

-- what a row costs by itself is what it costs in its timetable
pub cost_of_row : (i j : Problem) (t ls : List Placed) (c : ℕ) → j ≡ i → ls ≡ course_row c t → course_cost j ls c ≡ course_cost i t c
cost_of_row i j t ls c same row = ap₂ (λ a b. course_cost a b c) same row ∙ ap (row_cost i c) (row_of_row t c)
