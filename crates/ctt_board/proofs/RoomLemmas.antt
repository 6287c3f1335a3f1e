-- The room of each course in each slot, before and after a change.
use Rattle.std.proofs.Common.{◌≡◌, ℕ, Bool, true, false, cond, not, ◌&&◌, ◌==◌, List, [], ◌∷◌, Option, Some, None, refl, ◌∙◌, sym, ap, ap₂, arith, inl, inr, is_some}
use Rattle.std.specs.List.{filter, find}
use Rattle.std.proofs.lemmas.Bool.{cases_Bool, eq-eqb, and_parts, eqb-true}
use Rattle.std.proofs.lemmas.Bool.Decides.{nat_tests}
use Rattle.ctt_problem.specs.Lists.{put}
use Rattle.ctt_problem.specs.Timetable.{before, with, without}
use Rattle.ctt_problem.specs.declared.placed.Placed.{Placed}
use Rattle.ctt_board.specs.Changes.{room_at, room_of, room_by, apply_at, apply, CellFits, CellsFit}
use Rattle.ctt_board.specs.declared.cell.Cell.{Cell}

-- the first of a row, found in the whole list
pub find-filter : {X : Type 0} (q p : X → Bool) (xs : List X) → find p (filter q xs) ≡ find (λ x. q x && p x) xs
find-filter q p [] = refl
find-filter q p (x ∷ xs) = elim (cases_Bool (q x)) [
  | inl a ↦ elim (cases_Bool (p x)) [ inl b ↦ rw (a, b) refl | inr b ↦ rw (a, b) (find-filter q p xs) ]
  | inr a ↦ rw a (find-filter q p xs)
]

-- a lecture is the one of a course and a slot
abbrev pub is_at : ℕ → ℕ → Placed → Bool
is_at c s l = l.course == c && l.slot == s

pub room_is : (c s : ℕ) (t : List Placed) → room_at c s t ≡ room_of (find (is_at c s) t)
room_is c s t = ap room_of (find-filter (λ l. l.course == c) (λ l. l.slot == s) t)

pub find_put_no : {X : Type 0} (p : X → Bool) (lt : X → X → Bool) (l : X) (xs : List X) → p l ≡ false → find p (put lt l xs) ≡ find p xs
find_put_no p lt l [] e = rw e refl
find_put_no p lt l (x ∷ xs) e = elim (cases_Bool (lt l x)) [
  | inl k ↦ rw (k, e) refl
  | inr k ↦ elim (cases_Bool (p x)) [ inl y ↦ rw (k, y) refl | inr y ↦ rw (k, y) (find_put_no p lt l xs e) ]
]

pub find_put_yes : {X : Type 0} (p : X → Bool) (lt : X → X → Bool) (l : X) (xs : List X) → p l ≡ true → find p xs ≡ None → find p (put lt l xs) ≡ Some l
find_put_yes p lt l [] e h = rw e refl
find_put_yes {X = X} p lt l (x ∷ xs) e h = elim (cases_Bool (lt l x)) [
  | inl k ↦ rw (k, e) refl
  | inr k ↦ elim (cases_Bool (p x)) [ inl y ↦ (let h' : ◌≡◌ {A = Option X} (Some x) None = (rw y at h) in cc) | inr y ↦ (let h' : find p xs ≡ None = (rw y at h) in rw (k, y) (find_put_yes p lt l xs e h')) ]
]

find_left_none : {X : Type 0} (p : X → Bool) (xs : List X) → find p (filter (λ x. not (p x)) xs) ≡ None
find_left_none p [] = refl
find_left_none p (x ∷ xs) = elim (cases_Bool (p x)) [ inl y ↦ rw y (find_left_none p xs) | inr n ↦ rw (n, n) (find_left_none p xs) ]

find_left : {X : Type 0} (p q : X → Bool) (xs : List X) → ((x : X) → p x ≡ true → q x ≡ false) → find p (filter (λ x. not (q x)) xs) ≡ find p xs
find_left p q [] h = refl
find_left p q (x ∷ xs) h = elim (cases_Bool (p x)) [
  | inl y ↦ (let k : q x ≡ false = h x y in rw (k, y) refl)
  | inr n ↦ elim (cases_Bool (q x)) [ inl y ↦ rw (y, n) (find_left p q xs h) | inr y ↦ rw (y, n) (find_left p q xs h) ]
]

none_of : (o : Option Placed) → is_some (room_of o) ≡ false → o ≡ None
none_of None e = refl
none_of (Some l) e = cc

-- a test of one place is no test of another
apart : (c s d e : ℕ) → (c == d && s == e) ≡ false → (l : Placed) → is_at d e l ≡ true → is_at c s l ≡ false
apart c s d e n l k = grind (arith, nat_tests)

-- the rooms after a cell that fits
pub room_after : (c s : ℕ) (o : Option ℕ) (d e : ℕ) (t : List Placed) → CellFits t c s o → room_at d e (apply_at c s o t) ≡ cond (c == d && s == e) o (room_at d e t)
room_after c s None d e t fits = room_is d e (without c s t) ∙ at_place ∙ ap (λ x. cond (c == d && s == e) None x) (sym (room_is d e t))
  where
    at_place : room_of (find (is_at d e) (without c s t)) ≡ cond (c == d && s == e) None (room_of (find (is_at d e) t))
    at_place = elim (cases_Bool (c == d && s == e)) [
      | inl y ↦ (
          let parts = and_parts (c == d) (s == e) y in
          rw y (ap₂ (λ a b. room_of (find (is_at a b) (without c s t))) (sym (eqb-true c d parts.0)) (sym (eqb-true s e parts.1)) ∙ ap room_of (find_left_none (is_at c s) t)))
      | inr n ↦ rw n (ap room_of (find_left (is_at d e) (is_at c s) t (apart c s d e n)))
    ]
room_after c s (Some r) d e t fits = room_is d e (with l t) ∙ at_place ∙ ap (λ x. cond (c == d && s == e) (Some r) x) (sym (room_is d e t))
  where
    l : Placed
    l = record { course = c; slot = s; room = r }

    mine : is_at c s l ≡ true
    mine = rw (eq-eqb c c refl, eq-eqb s s refl) refl

    at_place : room_of (find (is_at d e) (with l t)) ≡ cond (c == d && s == e) (Some r) (room_of (find (is_at d e) t))
    at_place = elim (cases_Bool (c == d && s == e)) [
      | inl y ↦ (
          let parts = and_parts (c == d) (s == e) y in
          let empty : find (is_at c s) t ≡ None = none_of (find (is_at c s) t) (ap is_some (sym (room_is c s t)) ∙ fits) in
          rw y (ap₂ (λ a b. room_of (find (is_at a b) (with l t))) (sym (eqb-true c d parts.0)) (sym (eqb-true s e parts.1)) ∙ ap room_of (find_put_yes (is_at c s) before l t mine empty)))
      | inr n ↦ rw n (ap room_of (find_put_no (is_at d e) before l t n))
    ]

pub rooms_after : (cells : List Cell) (t : List Placed) → CellsFit cells t → (c s : ℕ) → room_at c s (apply cells t) ≡ room_by cells c s (room_at c s t)
rooms_after [] t fits c s = refl
rooms_after (x ∷ xs) t fits c s = rooms_after xs (apply_at x.course x.slot x.room t) fits.1 c s ∙ ap (room_by xs c s) (room_after x.course x.slot x.room c s t fits.0)
