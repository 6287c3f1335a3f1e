-- Cells, and changes, which are applied cell by cell.
use Rattle.std.specs.Prelude.{ℕ, ◌+◌, ◌-◌, Bool, true, false, cond, not, ◌&&◌, ◌||◌, ◌==◌, List, [], ◌∷◌, length, count_by, nat_le, Option, Some, None, is_some, is_none, IsSome, IsNone}
use Rattle.std.specs.Option.{option_map, option_eq}
use Rattle.std.specs.List.{find}
use Rattle.ctt_problem.specs.Problem.{Problem, clash}
use Rattle.ctt_problem.specs.Timetable.{course_row, slot_row, with, without}
use Rattle.ctt_problem.specs.declared.placed.Placed.{Placed}
use Rattle.ctt_rules.specs.Hard.{Lawful}
use Rattle.ctt_board.specs.declared.cell.Cell.{Cell}

-- the room of the lecture that was found, if any
abbrev pub room_of : Option Placed → Option ℕ
room_of found = option_map (λ (l : Placed). l.room) found

-- the room of the lecture of course c in slot s, if there is one
abbrev pub room_at : ℕ → ℕ → List Placed → Option ℕ
room_at c s t = room_of (find (λ l. l.slot == s) (course_row c t))

-- the course of the lecture that was found, if any
abbrev pub course_named : Option Placed → Option ℕ
course_named found = option_map (λ (l : Placed). l.course) found

-- the course whose lecture has room r in slot s, if there is one
abbrev pub holder_at : ℕ → ℕ → List Placed → Option ℕ
holder_at s r t = course_named (find (λ l. l.room == r) (slot_row s t))

-- the first course with a lecture in slot s that clashes with course c, if there is one
abbrev pub clash_at : Problem → ℕ → ℕ → List Placed → Option ℕ
clash_at i c s t = course_named (find (λ l. clash i c l.course) (slot_row s t))

-- the cell of course c in slot s, with a room or without
abbrev pub cell : ℕ → ℕ → Option ℕ → Cell
cell c s r = record { course = c; slot = s; room = r }

-- no removal follows an addition; `added` says whether an addition came earlier
abbrev pub in_turn : Bool → List Cell → Bool
in_turn added [] = true
in_turn added (x ∷ xs) = not (added && is_none x.room) && in_turn (added || is_some x.room) xs

-- at most four cells, removals before additions
abbrev pub is_change : List Cell → Bool
is_change cells = nat_le (length cells) 4 && in_turn false cells

-- the cells, if they form a change
abbrev pub change_of : List Cell → Option (List Cell)
change_of cells = cond (is_change cells) (Some cells) None

-- the timetable after a cell
abbrev pub apply_at : ℕ → ℕ → Option ℕ → List Placed → List Placed
apply_at c s None t = without c s t
apply_at c s (Some r) t = with (record { course = c; slot = s; room = r }) t

-- the timetable after a change
abbrev pub apply : List Cell → List Placed → List Placed
apply [] t = t
apply (x ∷ xs) t = apply xs (apply_at x.course x.slot x.room t)

-- a removal needs a lecture in its place, and an addition needs none
abbrev pub CellFits : List Placed → ℕ → ℕ → Option ℕ → Type 0
CellFits t c s None = IsSome (room_at c s t)
CellFits t c s (Some r) = IsNone (room_at c s t)

-- each cell fits the timetable after the earlier cells
abbrev pub CellsFit : List Cell → List Placed → Type 0
CellsFit [] t = Unit {0}
CellsFit (x ∷ xs) t = CellFits t x.course x.slot x.room × CellsFit xs (apply_at x.course x.slot x.room t)

-- a change fits a timetable if its cells fit and the timetable after them is lawful
pub record ChangeFits (i : Problem) (cells : List Cell) (t : List Placed) : Type 0 where
  pub cells_fit : CellsFit cells t
  pub lawful : Lawful i (apply cells t)

-- the timetable after changes, in order
abbrev pub apply_all : List (List Cell) → List Placed → List Placed
apply_all [] t = t
apply_all (x ∷ xs) t = apply_all xs (apply x t)

-- each change fits the timetable after the earlier changes
abbrev pub ChangesFit : Problem → List (List Cell) → List Placed → Type 0
ChangesFit i [] t = Unit {0}
ChangesFit i (x ∷ xs) t = ChangeFits i x t × ChangesFit i xs (apply x t)

-- the room of course c in slot s after these cells, if o is the room before them
abbrev pub room_by : List Cell → ℕ → ℕ → Option ℕ → Option ℕ
room_by [] c s o = o
room_by (x ∷ xs) c s o = room_by xs c s (cond (x.course == c && x.slot == s) x.room o)

-- the course, if any, that has room e after a cell of its slot, given h, the one before the cell
abbrev pub held_here : ℕ → Option ℕ → ℕ → Option ℕ → Option ℕ
held_here c None e h = cond (option_eq (λ (a b : ℕ). a == b) h (Some c)) None h
held_here c (Some r) e h = cond (r == e) (Some c) h

-- the course, if any, that has room e in slot d after a cell, given h, the one before the cell
abbrev pub held_after : Cell → ℕ → ℕ → Option ℕ → Option ℕ
held_after x d e h = cond (x.slot == d) (held_here x.course x.room e h) h

-- the course, if any, that has room e in slot d after these cells, given h, the one before them
abbrev pub holder_by : List Cell → ℕ → ℕ → Option ℕ → Option ℕ
holder_by [] d e h = h
holder_by (x ∷ xs) d e h = holder_by xs d e (held_after x d e h)

-- whether course c has a lecture in slot s after these cells; b says whether it has one before
abbrev pub stands_by : List Cell → ℕ → ℕ → Bool → Bool
stands_by [] c s b = b
stands_by (x ∷ xs) c s b = stands_by xs c s (cond (x.course == c && x.slot == s) (is_some x.room) b)

-- the cell adds a lecture of course c
abbrev pub is_added : ℕ → Cell → Bool
is_added c x = x.course == c && is_some x.room

-- the cell removes a lecture of course c
abbrev pub is_removed : ℕ → Cell → Bool
is_removed c x = x.course == c && is_none x.room

-- the number of lectures of course c after these cells, if it is n before them
abbrev pub count_after : List Cell → ℕ → ℕ → ℕ
count_after cells c n = (n + count_by (is_added c) cells) - count_by (is_removed c) cells
