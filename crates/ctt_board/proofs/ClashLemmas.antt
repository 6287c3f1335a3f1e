-- The courses that have a lecture in a slot, and the first of them that clashes.
use Rattle.std.proofs.Common.{◌≡◌, ℕ, zero, suc, ◌<◌, Bool, true, false, cond, ◌&&◌, ◌==◌, ltb, List, [], ◌∷◌, Option, Some, None, is_some, refl, ◌∙◌, sym, ap, ap₂, subst, arith, inl, inr}
use Rattle.std.specs.List.{find}
use Rattle.std.specs.Option.{option_or}
use Rattle.std.proofs.lemmas.Bool.{cases_Bool, cases_lt, lt-ltb, and_parts}
use Rattle.std.proofs.lemmas.List.Folds.{find-append}
use Rattle.ctt_problem.specs.Marks.{IsLeast}
use Rattle.ctt_problem.specs.Problem.{Problem, course_count, clash}
use Rattle.ctt_problem.specs.declared.placed.Placed.{Placed}
use Rattle.ctt_rules.specs.Hard.{Lawful}
use Rattle.ctt_board.specs.Cells.{lecture_at, column_below}
use Rattle.ctt_board.specs.Changes.{room_at, room_by, course_named, clash_at, stands_by}
use Rattle.ctt_board.specs.declared.cell.Cell.{Cell}
use Rattle.ctt_board.proofs.BetweenLemmas.{there_fits, some_room}
use Rattle.ctt_board.proofs.CellLemmas.{slot_row_is}

-- a course has a lecture in a slot after cells exactly if it has a room there then
pub stands_by_room : (cells : List Cell) (c s : ℕ) (o : Option ℕ) → stands_by cells c s (is_some o) ≡ is_some (room_by cells c s o)
stands_by_room [] c s o = refl
stands_by_room (x ∷ xs) c s o = ap (stands_by xs c s) (inside (x.course == c && x.slot == s)) ∙ stands_by_room xs c s (cond (x.course == c && x.slot == s) x.room o)
  where
    inside : (b : Bool) → cond b (is_some x.room) (is_some o) ≡ is_some (cond b x.room o)
    inside true = refl
    inside false = refl

-- the first course of a slot that passes
module _ (f : ℕ → Option ℕ) (s : ℕ) (q : ℕ → Bool) where
  abbrev first_below : ℕ → Option ℕ
  first_below n = course_named (find (λ (l : Placed). q l.course) (column_below f s n))

  named_or : (a b : Option Placed) → course_named (option_or a b) ≡ option_or (course_named a) (course_named b)
  named_or None b = refl
  named_or (Some l) b = refl

  one_named : (n : ℕ) → course_named (find (λ (l : Placed). q l.course) (lecture_at n s (f n))) ≡ cond (is_some (f n) && q n) (Some n) None
  one_named n = by (f n) (q n) refl
    where
      by : (o : Option ℕ) (b : Bool) → q n ≡ b → course_named (find (λ (l : Placed). q l.course) (lecture_at n s o)) ≡ cond (is_some o && b) (Some n) None
      by None b e = refl
      by (Some r) true e = rw e refl
      by (Some r) false e = rw e refl

  next_below : (n : ℕ) → first_below (suc n) ≡ option_or (first_below n) (cond (is_some (f n) && q n) (Some n) None)
  next_below n =
      ap course_named (find-append (λ (l : Placed). q l.course) (column_below f s n) (lecture_at n s (f n)))
      ∙ named_or (find (λ (l : Placed). q l.course) (column_below f s n)) (find (λ (l : Placed). q l.course) (lecture_at n s (f n)))
      ∙ ap (option_or (first_below n)) (one_named n)

  pub none_passes : (n : ℕ) → ((m : ℕ) → m < n → (is_some (f m) && q m) ≡ false) → first_below n ≡ None
  none_passes zero h = refl
  none_passes (suc n) h = next_below n ∙ rw (none_passes n (λ m lt. h m (omega (arith, lt))), h n (omega arith)) refl

  pub first_passes : (k n : ℕ) → k < n → (is_some (f k) && q k) ≡ true → ((m : ℕ) → m < k → (is_some (f m) && q m) ≡ false) → first_below n ≡ Some k
  first_passes k zero lt y h = absurd (omega (arith, lt))
  first_passes k (suc n) lt y h = next_below n ∙ elim (cases_lt k n) [
    | inl less ↦ rw (first_passes k n less y h) refl
    | inr same ↦ (
        let is : k ≡ n = omega (arith, lt, same) in
        let y' : (is_some (f n) && q n) ≡ true = subst (λ m. (is_some (f m) && q m) ≡ true) is y in
        rw (none_passes n (λ m less. h m (omega (arith, less, is))), y') (ap Some (sym is)))
  ]

module _ (i : Problem) (t : List Placed) (h : Lawful i t) (c s : ℕ) where
  abbrev here : ℕ → Bool
  here n = is_some (room_at n s t) && clash i c n

  stands_fits : (n : ℕ) → is_some (room_at n s t) ≡ true → n < course_count i
  stands_fits n y = (let stood = some_room (room_at n s t) y in (there_fits i n s stood.0 t h stood.1).0)

  -- marks on the courses in the slot and on those that clash
  same_test : (a b : ℕ → Bool) → ((n : ℕ) → a n ≡ is_some (room_at n s t)) → ((n : ℕ) → b n ≡ (ltb n (course_count i) && clash i c n)) → (n : ℕ) → (ltb n (course_count i) && (a n && b n)) ≡ here n
  same_test a b e f n = ap₂ (λ x y. ltb n (course_count i) && (x && y)) (e n) (f n) ∙ elim (cases_Bool (is_some (room_at n s t))) [
    | inl y ↦ rw (y, lt-ltb n (course_count i) (stands_fits n y)) refl
    | inr no' ↦ rw no' (none (ltb n (course_count i)))
  ]
    where
      none : (b : Bool) → (b && false) ≡ false
      none true = refl
      none false = refl

  pub clash_is : (a b : ℕ → Bool) (o : Option ℕ) → ((n : ℕ) → a n ≡ is_some (room_at n s t)) → ((n : ℕ) → b n ≡ (ltb n (course_count i) && clash i c n)) → IsLeast (λ n. ltb n (course_count i) && (a n && b n)) o → o ≡ clash_at i c s t
  clash_is a b None e f least = sym (ap (λ row. course_named (find (λ (l : Placed). clash i c l.course) row)) (slot_row_is i t s h.timetable) ∙ none_passes (λ n. room_at n s t) s (clash i c) (course_count i) (λ m lt. sym (same_test a b e f m) ∙ least m))
  clash_is a b (Some k) e f least =
      let y : here k ≡ true = sym (same_test a b e f k) ∙ least.0 in
      let stands = (and_parts (is_some (room_at k s t)) (clash i c k) y).0 in
      sym (ap (λ row. course_named (find (λ (l : Placed). clash i c l.course) row)) (slot_row_is i t s h.timetable) ∙ first_passes (λ n. room_at n s t) s (clash i c) k (course_count i) (stands_fits k stands) y (λ m lt. sym (same_test a b e f m) ∙ least.1 m lt))
