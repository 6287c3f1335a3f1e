-- Edits: the first fault that holds, or else the change.
use Rattle.std.specs.Prelude.{ℕ, ◌<◌, Bool, cond, ◌||◌, List, [], ◌∷◌, ◌==◌, Option, Some, None, is_none, is_some, Result, Ok, Err}
use Rattle.std.specs.Option.{option_map}
use Rattle.ctt_problem.specs.Problem.{Problem, course_count, slot_count, room_count, is_unavailable, is_barred}
use Rattle.ctt_problem.specs.Timetable.{without}
use Rattle.ctt_problem.specs.declared.placed.Placed.{Placed}
use Rattle.ctt_board.specs.Changes.{room_at, clash_at, cell, apply, apply_at}
use Rattle.ctt_board.specs.Fitting.{Obstacle, already_there, course_full, unavailable, barred, blocked, clash_with, taken_by, obstacle}
use Rattle.ctt_board.specs.declared.cell.Cell.{Cell}
use Rattle.ctt_edits.specs.declared.edit.Edit.{Edit}
use Rattle.ctt_edits.specs.declared.edit.Edit.TheVariants.{Place, Move, Swap, Reroom, Drop}
use Rattle.ctt_edits.specs.declared.fault.EditFault.{EditFault}
use Rattle.ctt_edits.specs.declared.fault.EditFault.TheVariants.{NotPlaced, SameSlot, SameCourse, AlreadyThere, CourseFull, Unavailable, Barred, Blocked, Clash, RoomTaken}

-- its numbers are those of the instance
abbrev pub EditFits : Problem → Edit → Type 0
EditFits i (Place c s r) = (c < course_count i) × (s < slot_count i) × (r < room_count i)
EditFits i (Move c s s2 r) = (c < course_count i) × (s < slot_count i) × (s2 < slot_count i) × (r < room_count i)
EditFits i (Swap c s d s2) = (c < course_count i) × (s < slot_count i) × (d < course_count i) × (s2 < slot_count i)
EditFits i (Reroom c s r) = (c < course_count i) × (s < slot_count i) × (r < room_count i)
EditFits i (Drop c s) = (c < course_count i) × (s < slot_count i)

-- the first fault, or else the second
abbrev pub or_else : Option EditFault → Option EditFault → Option EditFault
or_else None g = g
or_else (Some f) g = Some f

-- the fault f, if b holds
abbrev pub fault_if : Bool → EditFault → Option EditFault
fault_if b f = cond b (Some f) None

-- what keeps a lecture from its place, as a fault
abbrev pub as_fault : Obstacle → EditFault
as_fault already_there = AlreadyThere
as_fault course_full = CourseFull
as_fault unavailable = Unavailable
as_fault barred = Barred
as_fault blocked = Blocked
as_fault (clash_with c) = Clash c
as_fault (taken_by c) = RoomTaken c

-- the first fault of placing a lecture of course c in slot s and room r
abbrev pub try_fault : Problem → List Placed → ℕ → ℕ → ℕ → Option EditFault
try_fault i t c s r = option_map as_fault (obstacle i t c s r)

-- the first fault of placing a lecture in a room, if a room is given
abbrev pub try_room_of : Problem → List Placed → ℕ → ℕ → Option ℕ → Option EditFault
try_room_of i t c s None = None
try_room_of i t c s (Some r) = try_fault i t c s r

-- the first fault of placing a lecture of course c in the slot and room of lecture l, which leaves;
-- the course is not full, and the room is free, and not blocked in the slot
abbrev pub fault_in_place_of : Problem → List Placed → ℕ → Placed → Option EditFault
fault_in_place_of i t c l =
    or_else (fault_if (is_some (room_at c l.slot t)) AlreadyThere)
    (or_else (fault_if (is_unavailable i c l.slot) Unavailable)
    (or_else (fault_if (is_barred i c l.room) Barred)
    (option_map Clash (clash_at i c l.slot (without l.course l.slot t)))))

-- the change of an edit: its removals, then its additions
abbrev pub change : List Placed → Edit → List Cell
change t (Place c s r) = cell c s (Some r) ∷ []
change t (Move c s s2 r) = cell c s None ∷ cell c s2 (Some r) ∷ []
change t (Swap c s d s2) = cell c s None ∷ cell d s2 None ∷ cell c s2 (room_at d s2 t) ∷ cell d s (room_at c s t) ∷ []
change t (Reroom c s r) = cell c s None ∷ cell c s (Some r) ∷ []
change t (Drop c s) = cell c s None ∷ []

-- the first fault of an edit
abbrev pub edit_fault : Problem → List Placed → Edit → Option EditFault
edit_fault i t (Place c s r) = try_fault i t c s r
edit_fault i t (Move c s s2 r) =
    or_else (fault_if (is_none (room_at c s t)) NotPlaced)
    (or_else (fault_if (s == s2) SameSlot)
    (try_fault i (without c s t) c s2 r))
edit_fault i t (Swap c s d s2) =
    or_else (fault_if (is_none (room_at c s t) || is_none (room_at d s2 t)) NotPlaced)
    (or_else (fault_if (c == d) SameCourse)
    (or_else (try_room_of i (without d s2 (without c s t)) c s2 (room_at d s2 t))
    (try_room_of i (apply_at c s2 (room_at d s2 t) (without d s2 (without c s t))) d s (room_at c s t))))
edit_fault i t (Reroom c s r) =
    or_else (fault_if (is_none (room_at c s t)) NotPlaced)
    (try_fault i (without c s t) c s r)
edit_fault i t (Drop c s) = fault_if (is_none (room_at c s t)) NotPlaced

-- the timetable after an edit
abbrev pub edited : List Placed → Edit → List Placed
edited t e = apply (change t e) t

-- the cells, or the fault if there is one
abbrev pub checked_by : Option EditFault → List Cell → Result (List Cell) EditFault
checked_by None cells = Ok cells
checked_by (Some f) cells = Err f

-- the change of an edit, or the first fault that holds
abbrev pub checked : Problem → List Placed → Edit → Result (List Cell) EditFault
checked i t e = checked_by (edit_fault i t e) (change t e)
