-- Each intermediate timetable of a change that fits is lawful.
use Rattle.std.proofs.Common.{◌≡◌, ℕ, ◌<◌, Bool, true, false, not, List, [], ◌∷◌, Option, Some, None, is_some, refl, ◌∙◌, sym, ap, subst, arith, inl, inr, ◌⊎◌}
use Rattle.std.specs.List.{find, AllByRecursion as Each}
use Rattle.std.proofs.lemmas.Bool.{cases_Bool, eq-eqb}
use Rattle.std.proofs.lemmas.Bool.Decides.{nat_tests}
use Rattle.ctt_problem.specs.Problem.{Problem, IsProblem}
use Rattle.ctt_problem.specs.Timetable.{before, Fits, with, without}
use Rattle.ctt_problem.specs.declared.placed.Placed.{Placed}
use Rattle.ctt_rules.specs.Hard.{Lawful}
use Rattle.ctt_rules.proofs.ListLemmas.{filter_every}
use Rattle.ctt_board.specs.Changes.{room_at, room_of, apply_at, apply, in_turn, CellFits, CellsFit}
use Rattle.ctt_board.specs.Ways.{Ready}
use Rattle.ctt_board.specs.declared.cell.Cell.{Cell}
use Rattle.ctt_board.proofs.LawfulLemmas.{without_lawful}
use Rattle.ctt_board.proofs.PutLemmas.{filter-put_no}
use Rattle.ctt_board.proofs.RoomLemmas.{is_at, room_is}

-- what isn't found is nowhere
nowhere : {X : Type 0} (p : X → Bool) (xs : List X) → find p xs ≡ None → Each (λ x. not (p x) ≡ true) xs
nowhere p [] e = tt
nowhere {X = X} p (x ∷ xs) e = elim (cases_Bool (p x)) [
  | inl y ↦ (let e' : ◌≡◌ {A = Option X} (Some x) None = (rw y at e) in cc)
  | inr n ↦ (let e' : find p xs ≡ None = (rw n at e) in (ap not n, nowhere p xs e'))
]

none_of : (o : Option Placed) → is_some (room_of o) ≡ false → o ≡ None
none_of None e = refl
none_of (Some l) e = cc

-- a lecture that is added and taken out again
added_back : (c s r : ℕ) (t : List Placed) → is_some (room_at c s t) ≡ false → without c s (with (record { course = c; slot = s; room = r }) t) ≡ t
added_back c s r t e =
    let l : Placed = record { course = c; slot = s; room = r } in
    let mine : not (is_at c s l) ≡ false = rw (eq-eqb c c refl, eq-eqb s s refl) refl in
    filter-put_no (λ x. not (is_at c s x)) before l t mine ∙ filter_every (λ x. not (is_at c s x)) t (nowhere (is_at c s) t (none_of (find (is_at c s) t) (ap is_some (sym (room_is c s t)) ∙ e)))

lawful_back : (i : Problem) (c s r : ℕ) (t : List Placed) → is_some (room_at c s t) ≡ false → Lawful i (with (record { course = c; slot = s; room = r }) t) → Lawful i t
lawful_back i c s r t e h = subst (Lawful i) (added_back c s r t e) (without_lawful i (with (record { course = c; slot = s; room = r }) t) c s h)

-- what additions make lawful was lawful before
additions_back : (i : Problem) (cells : List Cell) (t : List Placed) → in_turn true cells ≡ true → CellsFit cells t → Lawful i (apply cells t) → Lawful i t
additions_back i [] t turn fits h = h
additions_back i (x ∷ xs) t turn fits h = at x.room turn fits.0 (λ turn'. additions_back i xs (apply_at x.course x.slot x.room t) turn' fits.1 h)
  where
    at : (o : Option ℕ) → in_turn true (record { course = x.course; slot = x.slot; room = o } ∷ xs) ≡ true → CellFits t x.course x.slot o → (in_turn true xs ≡ true → Lawful i (apply_at x.course x.slot o t)) → Lawful i t
    at None turn fits more = cc
    at (Some r) turn fits more = lawful_back i x.course x.slot r t fits (more turn)

-- the timetable after the next cell
pub next_lawful : (i : Problem) (x : Cell) (rest : List Cell) (t : List Placed) → Lawful i t → in_turn false (x ∷ rest) ≡ true → CellsFit (x ∷ rest) t → Lawful i (apply (x ∷ rest) t) → Lawful i (apply_at x.course x.slot x.room t)
next_lawful i x rest t now turn fits h = at x.room turn (λ turn'. additions_back i rest (apply_at x.course x.slot x.room t) turn' fits.1 h)
  where
    at : (o : Option ℕ) → in_turn (is_some o) rest ≡ true → (in_turn true rest ≡ true → Lawful i (apply_at x.course x.slot o t)) → Lawful i (apply_at x.course x.slot o t)
    at None turn more = without_lawful i t x.course x.slot now
    at (Some r) turn more = more turn

-- what is found is somewhere
pub somewhere : (P : Placed → Type 0) (p : Placed → Bool) (xs : List Placed) (r : ℕ) → Each P xs → room_of (find p xs) ≡ Some r → (l : Placed) × P l × (p l ≡ true) × (l.room ≡ r)
somewhere P p [] r h e = cc
somewhere P p (x ∷ xs) r h e = elim (cases_Bool (p x)) [
  | inl y ↦ (let e' : Some x.room ≡ Some r = (rw y at e) in (x, h.0, y, cc))
  | inr n ↦ (let e' : room_of (find p xs) ≡ Some r = (rw n at e) in somewhere P p xs r h.1 e')
]

pub put_has : (P : Placed → Type 0) (l : Placed) (xs : List Placed) → Each P (with l xs) → P l
put_has P l [] h = h.0
put_has P l (x ∷ xs) h = at (cases_Bool (before l x)) (λ k. put_has P l xs k)
  where
    at : (before l x ≡ true) ⊎ (before l x ≡ false) → (Each P (with l xs) → P l) → P l
    at (inl y) more = (let h' : Each P (l ∷ x ∷ xs) = (rw y at h) in h'.0)
    at (inr n) more = (let h' : Each P (x ∷ with l xs) = (rw n at h) in more h'.1)

-- the numbers of a lecture that is added, and of one that is placed
pub comes_fits : (i : Problem) (l : Placed) (t : List Placed) → Lawful i (with l t) → Fits i l
comes_fits i l t h = put_has (Fits i) l t h.timetable.fits

pub there_fits : (i : Problem) (c s r : ℕ) (t : List Placed) → Lawful i t → room_at c s t ≡ Some r → Fits i (record { course = c; slot = s; room = r })
there_fits i c s r t h e =
    let there = somewhere (Fits i) (is_at c s) t r h.timetable.fits (sym (room_is c s t) ∙ e) in
    let l : Placed = there.0 in
    let course : l.course ≡ c = grind (arith, nat_tests, there.2) in
    let slot : l.slot ≡ s = grind (arith, nat_tests, there.2) in
    let f : Fits i l = there.1 in
    (omega (arith, f.0, course), omega (arith, f.1, slot), omega (arith, f.2, there.3))

pub some_room : (o : Option ℕ) → is_some o ≡ true → (r : ℕ) × (o ≡ Some r)
some_room (Some r) h = (r, refl)
some_room None h = cc

pub ready_at : (i : Problem) (c s : ℕ) (o : Option ℕ) (t : List Placed) → Lawful i t → CellFits t c s o → Lawful i (apply_at c s o t) → Ready i c s o t
ready_at i c s (Some r) t now fits next = (let f = comes_fits i (record { course = c; slot = s; room = r }) t next in record { course = f.0; slot = f.1; fits = fits; lawful = next })
ready_at i c s None t now fits next =
    let stood = some_room (room_at c s t) fits in
    let f = there_fits i c s stood.0 t now stood.1 in
    record { course = f.0; slot = f.1; fits = fits; lawful = next }

-- what is said of cells after one that may have been an addition
pub in_turn_later : (b : Bool) (cells : List Cell) → in_turn b cells ≡ true → in_turn false cells ≡ true
in_turn_later false cells h = h
in_turn_later true [] h = refl
in_turn_later true (x ∷ xs) h = at x.room h
  where
    at : (o : Option ℕ) → in_turn true (record { course = x.course; slot = x.slot; room = o } ∷ xs) ≡ true → in_turn false (record { course = x.course; slot = x.slot; room = o } ∷ xs) ≡ true
    at None h = cc
    at (Some r) h = h

pub turn_rest : (y : Cell) (ys : List Cell) → in_turn false (y ∷ ys) ≡ true → in_turn false ys ≡ true
turn_rest y ys h = in_turn_later (is_some y.room) ys h

-- the courses of cells that fit, removals first
pub courses_few : (i : Problem) (cells : List Cell) (t : List Placed) → Lawful i t → in_turn false cells ≡ true → CellsFit cells t → Lawful i (apply cells t) → IsProblem i → Each (λ x. x.course < 2000) cells
courses_few i [] t now turn fits after p = tt
courses_few i (x ∷ xs) t now turn fits after p =
    let next = next_lawful i x xs t now turn fits after in
    let known = (ready_at i x.course x.slot x.room t now fits.0 next).course in
    (omega (arith, known, p.courses_few), courses_few i xs (apply_at x.course x.slot x.room t) next (turn_rest x xs turn) fits.1 after p)
