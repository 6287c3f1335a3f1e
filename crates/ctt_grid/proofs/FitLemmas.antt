-- The test of a change, cell by cell.
use Rattle.std.proofs.Common.{◌≡◌, ℕ, zero, suc, leb, take, ◌<◌, ◌≤◌, Bool, true, false, not, ltb, ◌&&◌, ◌||◌, List, [], ◌∷◌, length, get_or, is_some, is_none, refl, subst, arith, inl, inr}
use Rattle.std.proofs.lemmas.Bool.{cases_Bool, and_parts, le-leb, leb-true, ltb-true}
use Rattle.ctt_problem.specs.Problem.{Problem, course_count, slot_count, room_count}
use Rattle.ctt_problem.specs.Timetable.{Fits}
use Rattle.ctt_problem.specs.declared.placed.Placed.{Placed}
use Rattle.ctt_rules.specs.Hard.{Lawful}
use Rattle.ctt_board.specs.Changes.{room_at, apply_at, apply, in_turn, is_change}
use Rattle.ctt_board.specs.Fitting.{is_known, cell_fits, fits}
use Rattle.ctt_board.specs.declared.cell.Cell.{Cell}
use Rattle.ctt_board.proofs.BetweenLemmas.{there_fits, some_room}

pub fits_of : (i : Problem) (l : Placed) → is_known i l ≡ true → Fits i l
fits_of i l told =
    let known = and_parts (ltb l.course (course_count i)) (ltb l.slot (slot_count i) && ltb l.room (room_count i)) told in
    let rest = and_parts (ltb l.slot (slot_count i)) (ltb l.room (room_count i)) known.1 in
    (ltb-true l.course (course_count i) known.0, ltb-true l.slot (slot_count i) rest.0, ltb-true l.room (room_count i) rest.1)

-- a change, up to one of its cells
turn_take : (b : Bool) (k : ℕ) (cells : List Cell) → in_turn b cells ≡ true → in_turn b (take k cells) ≡ true
turn_take b zero cells h = refl
turn_take b (suc k) [] h = refl
turn_take b (suc k) (x ∷ xs) h =
    let both = and_parts (not (b && is_none x.room)) (in_turn (b || is_some x.room) xs) h in
    rw both.0 (turn_take (b || is_some x.room) k xs both.1)

take_short : (k : ℕ) (cells : List Cell) → length (take k cells) ≤ length cells
take_short zero cells = omega arith
take_short (suc k) [] = omega arith
take_short (suc k) (x ∷ xs) = omega (arith, take_short k xs)

pub change_take : (k : ℕ) (cells : List Cell) → is_change cells ≡ true → is_change (take k cells) ≡ true
change_take k cells h =
    let both = and_parts (leb (length cells) 4) (in_turn false cells) h in
    rw (le-leb (length (take k cells)) 4 (omega (arith, take_short k cells, leb-true (length cells) 4 both.0)), turn_take false k cells both.1) refl

-- a change with a cell that cannot be made after the earlier ones
pub refused : (i : Problem) (cells : List Cell) (k : ℕ) (x : Cell) (t : List Placed) → k < length cells → x ≡ get_or cells k x → cell_fits i (apply (take k cells) t) x.course x.slot x.room ≡ false → fits i cells t ≡ false
refused i [] k x t lt is bad = absurd (omega (arith, lt))
refused i (y ∷ ys) zero x t lt is bad = (let no' : cell_fits i t y.course y.slot y.room ≡ false = subst (λ z. cell_fits i t z.course z.slot z.room ≡ false) is bad in rw no' refl)
refused i (y ∷ ys) (suc k) x t lt is bad = rw (refused i ys k x (apply_at y.course y.slot y.room t) (omega (arith, lt)) is bad) (by (cell_fits i t y.course y.slot y.room))
  where
    by : (a : Bool) → (a && false) ≡ false
    by true = refl
    by false = refl

-- and one of which one more cell can be made
pub passed : (i : Problem) (cells : List Cell) (k : ℕ) (x : Cell) (t : List Placed) → k < length cells → x ≡ get_or cells k x → fits i (take k cells) t ≡ true → cell_fits i (apply (take k cells) t) x.course x.slot x.room ≡ true → fits i (take (suc k) cells) t ≡ true
passed i [] k x t lt is so_far good = absurd (omega (arith, lt))
passed i (y ∷ ys) zero x t lt is so_far good = (let here : cell_fits i t y.course y.slot y.room ≡ true = subst (λ z. cell_fits i t z.course z.slot z.room ≡ true) is good in rw here refl)
passed i (y ∷ ys) (suc k) x t lt is so_far good =
    let both = and_parts (cell_fits i t y.course y.slot y.room) (fits i (take k ys) (apply_at y.course y.slot y.room t)) so_far in
    rw both.0 (passed i ys k x (apply_at y.course y.slot y.room t) (omega (arith, lt)) is both.1 good)

-- no lecture is in a slot past the last
pub no_slot : (i : Problem) (c s : ℕ) (t : List Placed) → Lawful i t → slot_count i ≤ s → is_some (room_at c s t) ≡ false
no_slot i c s t h le = elim (cases_Bool (is_some (room_at c s t))) [
  | inl y ↦ (let stood = some_room (room_at c s t) y in let f = there_fits i c s stood.0 t h stood.1 in absurd (omega (arith, f.1, le)))
  | inr n ↦ n
]
