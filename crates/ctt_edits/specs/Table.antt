-- The table of edits, taken literally: each edit by trials, each of which gives a timetable or a
-- fault.
use Rattle.std.specs.Prelude.{ℕ, cond, List, ◌==◌, Option, Some, None, is_none, Result, Ok, Err}
use Rattle.ctt_problem.specs.Problem.{Problem}
use Rattle.ctt_problem.specs.Timetable.{with, without}
use Rattle.ctt_problem.specs.declared.placed.Placed.{Placed}
use Rattle.ctt_board.specs.Changes.{room_at}
use Rattle.ctt_edits.specs.Edits.{try_fault, edit_fault, edited}
use Rattle.ctt_edits.specs.declared.edit.Edit.{Edit}
use Rattle.ctt_edits.specs.declared.edit.Edit.TheVariants.{Place, Move, Swap, Reroom, Drop}
use Rattle.ctt_edits.specs.declared.fault.EditFault.{EditFault}
use Rattle.ctt_edits.specs.declared.fault.EditFault.TheVariants.{NotPlaced, SameSlot, SameCourse}

-- a timetable, unless there is a fault
abbrev pub unless : Option EditFault → List Placed → Result (List Placed) EditFault
unless None t = Ok t
unless (Some f) t = Err f

-- the timetable after an edit, or its first fault
abbrev pub outcome : Problem → List Placed → Edit → Result (List Placed) EditFault
outcome i t e = unless (edit_fault i t e) (edited t e)

-- the timetable with the lecture, or the first fault of placing it
abbrev pub try : Problem → List Placed → ℕ → ℕ → ℕ → Result (List Placed) EditFault
try i t c s r = unless (try_fault i t c s r) (with (record { course = c; slot = s; room = r }) t)

-- a further trial, if the earlier one gave a timetable
abbrev pub then_try : Problem → Result (List Placed) EditFault → ℕ → ℕ → ℕ → Result (List Placed) EditFault
then_try i (Ok t) c s r = try i t c s r
then_try i (Err f) c s r = Err f

-- the swap of two lectures, given their rooms, if both are placed
abbrev pub exchange : Problem → List Placed → ℕ → ℕ → ℕ → ℕ → Option ℕ → Option ℕ → Result (List Placed) EditFault
exchange i t c s d s2 (Some r) (Some r2) = cond (c == d) (Err SameCourse) (then_try i (try i (without d s2 (without c s t)) c s2 r2) d s r)
exchange i t c s d s2 None _ = Err NotPlaced
exchange i t c s d s2 (Some r) None = Err NotPlaced

-- the timetable after an edit, or a fault, by the table of edits
abbrev pub by_table : Problem → List Placed → Edit → Result (List Placed) EditFault
by_table i t (Place c s r) = try i t c s r
by_table i t (Move c s s2 r) = cond (is_none (room_at c s t)) (Err NotPlaced) (cond (s == s2) (Err SameSlot) (try i (without c s t) c s2 r))
by_table i t (Swap c s d s2) = exchange i t c s d s2 (room_at c s t) (room_at d s2 t)
by_table i t (Reroom c s r) = cond (is_none (room_at c s t)) (Err NotPlaced) (try i (without c s t) c s r)
by_table i t (Drop c s) = cond (is_none (room_at c s t)) (Err NotPlaced) (Ok (without c s t))
