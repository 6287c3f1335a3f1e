-- The undo record: the cells that lead from the timetable after changes back to the one before
-- them.
use Rattle.std.specs.Prelude.{ℕ, ◌≡◌, ◌<◌, Bool, false, not, cond, ◌&&◌, ◌==◌, List, [], ◌∷◌, ◌++◌, map}
use Rattle.std.specs.List.{filter, list_any, AllByRecursion as Each}
use Rattle.ctt_problem.specs.Problem.{Problem, course_count, slot_count}
use Rattle.ctt_problem.specs.declared.placed.Placed.{Placed}
use Rattle.ctt_board.specs.Changes.{cell, room_at, room_by}
use Rattle.ctt_board.specs.Cells.{rows_below}
use Rattle.ctt_problem.specs.BitRows.{BitTable, is_marked_in}
use Rattle.ctt_board.specs.declared.cell.Cell.{Cell}

-- the cell is that of the course c in the slot s
abbrev pub is_cell_of : ℕ → ℕ → Cell → Bool
is_cell_of c s x = x.course == c && x.slot == s

-- some cell is that of the course c in the slot s
abbrev pub is_named : ℕ → ℕ → List Cell → Bool
is_named c s cells = list_any (is_cell_of c s) cells

-- each cell once, at its first occurrence
abbrev pub first_named : List Cell → List Cell
first_named [] = []
first_named (x ∷ xs) = x ∷ filter (λ y. not (is_cell_of x.course x.slot y)) (first_named xs)

-- the cell with the room that the timetable has there, if any
abbrev pub found_in : List Placed → Cell → Cell
found_in t x = cell x.course x.slot (room_at x.course x.slot t)

-- the cells, each once and in order of first appearance, with their rooms in the snapshot
abbrev pub recorded : List Placed → List Cell → List Cell
recorded base cells = map (found_in base) (first_named cells)

-- the cells of the changes, in order
abbrev pub all_cells : List (List Cell) → List Cell
all_cells [] = []
all_cells (x ∷ xs) = x ++ all_cells xs

-- the cells that the changes name, each once and in order of first appearance, with their rooms
-- before all changes
abbrev pub undo_of : List Placed → List (List Cell) → List Cell
undo_of base changes = recorded base (all_cells changes)

-- the timetable with these cells put back, whatever it has there
abbrev pub put_back : Problem → List Cell → List Placed → List Placed
put_back i cells t = rows_below (λ c s. room_by cells c s (room_at c s t)) (slot_count i) (course_count i)

-- these cells have the rooms of the snapshot, and the timetable t agrees with the snapshot in all
-- other cells
pub record Records (base t : List Placed) (cells : List Cell) : Type 0 where
  pub rooms : Each (λ (x : Cell). x.room ≡ room_at x.course x.slot base) cells
  pub others : (c s : ℕ) → is_named c s cells ≡ false → room_at c s t ≡ room_at c s base

-- the courses and the slots of the cells are below these numbers
abbrev pub AreWithin : ℕ → ℕ → List Cell → Type 0
AreWithin courses slots cells = Each (λ (x : Cell). (x.course < courses) × (x.slot < slots)) cells

-- an undo record: the numbers of courses and slots of its instance, and the recorded cells
pub record UndoValue : Type 0 where
  pub courses : ℕ
  pub slots : ℕ
  pub cells : List Cell

-- the recorded cells after the cell x is named: if it is new, it is added with its room on the
-- timetable t
abbrev pub noted : List Placed → Cell → List Cell → List Cell
noted t x cells = cond (is_named x.course x.slot cells) cells (cells ++ found_in t x ∷ [])

-- the recorded cells after all of these cells are named, in order
abbrev pub all_noted : List Placed → List Cell → List Cell → List Cell
all_noted t [] so_far = so_far
all_noted t (x ∷ xs) so_far = all_noted t xs (noted t x so_far)

-- the invariant of an undo record: the marks are on exactly the recorded cells, a row of them for
-- each slot
pub record IsUndo (cells : List Cell) (marks : BitTable) : Type 0 where
  pub within : AreWithin marks.width marks.rows cells
  pub tells : (c s : ℕ) → c < marks.width → s < marks.rows → is_marked_in marks s c ≡ is_named c s cells
