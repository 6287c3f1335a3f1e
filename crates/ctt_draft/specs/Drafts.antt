-- What the calls of a draft do, and when a draft is stale.
use Rattle.std.specs.Prelude.{ℕ, Bool, not, ◌&&◌, ◌==◌, List, [], ◌∷◌, ◌++◌, map, Option}
use Rattle.std.specs.Cmp.Lexicographic.{pointwise}
use Rattle.std.specs.List.{list_any, find}
use Rattle.ctt_problem.specs.Problem.{Problem}
use Rattle.ctt_problem.specs.declared.placed.Placed.{Placed}
use Rattle.ctt_board.specs.Changes.{apply}
use Rattle.ctt_board.specs.declared.cell.Cell.{Cell}
use Rattle.ctt_edits.specs.Calls.{CallFits, reply, cells_of_call, reads_course, reads_slot, rows_where, row}
use Rattle.ctt_edits.specs.Fitting.{ReplyFits}
use Rattle.ctt_edits.specs.declared.call.Call.{Call}
use Rattle.ctt_edits.specs.declared.reply.Reply.{Reply}
use Rattle.ctt_edits.specs.declared.row.Row.{Row}
use Rattle.ctt_draft.specs.declared.asked.Asked.{Asked}

-- the calls alone, in order
abbrev pub calls_of : List Asked → List Call
calls_of asked = map (λ (a : Asked). a.call) asked

-- the replies alone, in order
abbrev pub replies_in : List Asked → List Reply
replies_in asked = map (λ (a : Asked). a.reply) asked

-- the numbers in the call and the reply are valid for the instance, and amounts have at most 63
-- bits
abbrev pub AskedFits : Problem → Asked → Type 0
AskedFits i a = CallFits i a.call × ReplyFits i a.reply

-- the timetable after a call
abbrev pub after_call : Problem → List Placed → Call → List Placed
after_call i t call = apply (cells_of_call i t call) t

-- the replies to calls that are made on t in order, with no other changes in between
abbrev pub replies : Problem → List Placed → List Call → List Reply
replies i t [] = []
replies i t (call ∷ calls) = reply i t call ∷ replies i (after_call i t call) calls

-- the timetable after these calls
abbrev pub whole : Problem → List Placed → List Call → List Placed
whole i t [] = t
whole i t (call ∷ calls) = whole i (after_call i t call) calls

-- a list of the one change with these cells; empty if there are no cells
abbrev pub made : List Cell → List (List Cell)
made [] = []
made (x ∷ xs) = (x ∷ xs) ∷ []

-- the changes that calls made on t make, in order
abbrev pub changes : Problem → List Placed → List Call → List (List Cell)
changes i t [] = []
changes i t (call ∷ calls) = made (cells_of_call i t call) ++ changes i (after_call i t call) calls

-- some call reads the row of the course c
abbrev pub all_read_course : Problem → List Call → ℕ → Bool
all_read_course i calls c = list_any (λ call. reads_course i call c) calls

-- some call reads the row of the slot s
abbrev pub all_read_slot : List Call → ℕ → Bool
all_read_slot calls s = list_any (λ call. reads_slot call s) calls

-- the rows that the calls read, courses before slots
abbrev pub all_reads : Problem → List Call → List Row
all_reads i calls = rows_where i (all_read_course i calls) (all_read_slot calls)

-- the lectures are equal
abbrev pub same_lecture : Placed → Placed → Bool
same_lecture a b = a.course == b.course && a.slot == b.slot && a.room == b.room

-- the lists of lectures are equal
abbrev pub same_list : List Placed → List Placed → Bool
same_list t u = pointwise same_lecture t u

-- the row differs between the timetables
abbrev pub differs : List Placed → List Placed → Row → Bool
differs t u r = not (same_list (row r t) (row r u))

-- the first row, courses before slots, that the calls read and that differs, if any
abbrev pub stale : Problem → List Placed → List Placed → List Call → Option Row
stale i base now calls = find (differs base now) (all_reads i calls)
