-- The comparison of a draft's snapshot with a sheet.
use Rattle.std.specs.Prelude.{ℕ, ◌≡◌, Bool, true, not, ◌&&◌, ◌||◌, ◌==◌, List, Option, Some, None}
use Rattle.std.specs.List.{list_any}
use Rattle.std.specs.Option.{option_eq}
use Rattle.ctt_problem.specs.Marks.{is_marked}
use Rattle.ctt_problem.specs.Problem.{Problem, course_count, slot_count}
use Rattle.ctt_problem.specs.Timetable.{IsTimetable}
use Rattle.ctt_problem.specs.declared.placed.Placed.{Placed}
use Rattle.ctt_rules.specs.Hard.{Lawful}
use Rattle.ctt_board.specs.Changes.{room_at, holder_at}
use Rattle.ctt_board.specs.declared.cell.Cell.{Cell}
use Rattle.ctt_draft.specs.Undo.{is_named, put_back, Records, UndoValue}

-- the timetable's room at the cell is not the cell's; either may be none
abbrev pub is_other : List Placed → Cell → Bool
is_other t x = not (option_eq (λ (a b : ℕ). a == b) x.room (room_at x.course x.slot t))

-- the timetable differs from some of these cells of the course
abbrev pub has_other_in_course : ℕ → List Placed → List Cell → Bool
has_other_in_course c t cells = list_any (λ (x : Cell). x.course == c && is_other t x) cells

-- the timetable differs from some of these cells in the slot
abbrev pub has_other_in_slot : ℕ → List Placed → List Cell → Bool
has_other_in_slot s t cells = list_any (λ (x : Cell). x.slot == s && is_other t x) cells

-- a draft's present timetable, the recorded cells, which lead back to its snapshot, and a sheet
pub record Compared : Type 0 where
  pub problem : Problem
  pub present : List Placed
  pub undo : List Cell
  pub sheet : List Placed

-- the snapshot
abbrev pub base_of : Compared → List Placed
base_of v = put_back v.problem v.undo v.present

-- there is no course, or its cell in slot s is one of these
abbrev pub is_none_or_named : ℕ → List Cell → Option ℕ → Bool
is_none_or_named s cells None = true
is_none_or_named s cells (Some c) = is_named c s cells

-- room r has the same course in slot s of the present timetable and of the sheet, or the cell of
-- each course that has it is recorded
abbrev pub agrees_in_room : ℕ → ℕ → Compared → Bool
agrees_in_room s r v = option_eq (λ (a b : ℕ). a == b) (holder_at s r v.present) (holder_at s r v.sheet) || (is_none_or_named s v.undo (holder_at s r v.present) && is_none_or_named s v.undo (holder_at s r v.sheet))

-- the snapshot is a timetable, the present one and the sheet are lawful, and the present one
-- differs from the snapshot in recorded cells only
pub record IsComparable (v : Compared) : Type 0 where
  pub base : IsTimetable v.problem (base_of v)
  pub present : Lawful v.problem v.present
  pub sheet : Lawful v.problem v.sheet
  pub records : Records (base_of v) v.present v.undo

-- the invariant of a comparison: exactly the courses and the slots of recorded cells from which the
-- sheet differs are marked
pub record IsComparison (i p q : Problem) (present sheet : List Placed) (undo : UndoValue) (courses slots : List ℕ) : Type 0 where
  pub present_of : p ≡ i
  pub sheet_of : q ≡ i
  pub courses_of : undo.courses ≡ course_count i
  pub slots_of : undo.slots ≡ slot_count i
  pub are : IsComparable (record { problem = i; present = present; undo = undo.cells; sheet = sheet })
  pub courses_are : (n : ℕ) → is_marked courses n ≡ has_other_in_course n sheet undo.cells
  pub slots_are : (n : ℕ) → is_marked slots n ≡ has_other_in_slot n sheet undo.cells
