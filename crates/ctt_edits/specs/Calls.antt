-- Calls, that is edits and looks: the reply, the cells that change, and the rows that are read.
use Rattle.std.specs.Prelude.{ℕ, ◌≡◌, ◌<◌, Bool, true, false, ◌==◌, ◌||◌, List, [], ◌∷◌, ◌++◌, map, Option, Some, None, All}
use Rattle.std.specs.List.{list_any}
use Rattle.ctt_problem.specs.Lists.{below, has}
use Rattle.ctt_problem.specs.Problem.{Problem, course_of, members, mates, course_count, slot_count}
use Rattle.ctt_problem.specs.Timetable.{course_row, slot_row}
use Rattle.ctt_problem.specs.declared.placed.Placed.{Placed}
use Rattle.ctt_board.specs.declared.cell.Cell.{Cell}
use Rattle.ctt_edits.specs.Edits.{EditFits, edit_fault, change}
use Rattle.ctt_edits.specs.Offers.{pattern_of}
use Rattle.ctt_edits.specs.Looks.{LookFits, shown, told_or}
use Rattle.ctt_edits.specs.declared.reply.Reply.{Reply}
use Rattle.ctt_edits.specs.declared.reply.Reply.TheVariants.{Done}
use Rattle.ctt_edits.specs.declared.edit.Edit.{Edit}
use Rattle.ctt_edits.specs.declared.edit.Edit.TheVariants.{Place, Move, Swap, Reroom, Drop}
use Rattle.ctt_edits.specs.declared.fault.EditFault.{EditFault}
use Rattle.ctt_edits.specs.declared.looks.Look.{Look}
use Rattle.ctt_edits.specs.declared.looks.Look.TheVariants.{Course, Slot, Teacher, Curriculum, CourseCost, Price, Missing, Cheapest, Slots, Cost as WholeCost}
use Rattle.ctt_edits.specs.declared.call.Call.{Call}
use Rattle.ctt_edits.specs.declared.call.Call.TheVariants.{Look as Looks, Edit as Edits}
use Rattle.ctt_edits.specs.declared.pattern.Pattern.{Pattern}
use Rattle.ctt_edits.specs.declared.pattern.Pattern.TheVariants.{Place as AnyPlace, Move as AnyMove, Swap as AnySwap, Reroom as AnyReroom}
use Rattle.ctt_edits.specs.declared.row.Row.{Row}
use Rattle.ctt_edits.specs.declared.row.Row.TheVariants.{Course as CourseRow, Slot as SlotRow}

-- its numbers are those of the instance
abbrev pub CallFits : Problem → Call → Type 0
CallFits i (Looks look) = LookFits i look
CallFits i (Edits e) = EditFits i e

-- the reply to a call
abbrev pub reply : Problem → List Placed → Call → Reply
reply i t (Looks look) = shown i t look
reply i t (Edits e) = told_or (edit_fault i t e) Done

-- the cells, unless there is a fault
abbrev pub cells_if : Option EditFault → List Cell → List Cell
cells_if None cells = cells
cells_if (Some f) cells = []

-- the cells that a call changes: those of an edit without a fault
abbrev pub cells_of_call : Problem → List Placed → Call → List Cell
cells_of_call i t (Looks look) = []
cells_of_call i t (Edits e) = cells_if (edit_fault i t e) (change t e)

-- the courses whose rows an edit reads
abbrev pub edit_courses : Edit → List ℕ
edit_courses (Place c s r) = c ∷ []
edit_courses (Move c s s2 r) = c ∷ []
edit_courses (Swap c s d s2) = c ∷ d ∷ []
edit_courses (Reroom c s r) = c ∷ []
edit_courses (Drop c s) = c ∷ []

-- the slots whose rows an edit reads
abbrev pub edit_slots : Edit → List ℕ
edit_slots (Place c s r) = s ∷ []
edit_slots (Move c s s2 r) = s2 ∷ []
edit_slots (Swap c s d s2) = s ∷ s2 ∷ []
edit_slots (Reroom c s r) = s ∷ []
edit_slots (Drop c s) = []

-- x is one of the courses or a curriculum mate of one
abbrev pub with_mates : Problem → List ℕ → ℕ → Bool
with_mates i cs x = has x cs || list_any (λ c. mates i c x) cs

-- x is a course whose row the prices of a pattern's edits read
abbrev pub pattern_reads_course : Problem → Pattern → ℕ → Bool
pattern_reads_course i (AnyPlace c s r) x = with_mates i (c ∷ []) x
pattern_reads_course i (AnyMove c s s2 r) x = with_mates i (c ∷ []) x
pattern_reads_course i (AnySwap c s) x = true
pattern_reads_course i (AnyReroom c s r) x = with_mates i (c ∷ []) x

-- x is the given number, or none is given
abbrev pub is_choice : Option ℕ → ℕ → Bool
is_choice None x = true
is_choice (Some y) x = has x (y ∷ [])

-- x is a slot whose row the prices of a pattern's edits read
abbrev pub pattern_reads_slot : Pattern → ℕ → Bool
pattern_reads_slot (AnyPlace c s r) x = is_choice s x
pattern_reads_slot (AnyMove c s s2 r) x = is_choice s2 x
pattern_reads_slot (AnySwap c s) x = true
pattern_reads_slot (AnyReroom c s r) x = is_choice (Some s) x

-- x is a course whose row a look reads
abbrev pub look_reads_course : Problem → Look → ℕ → Bool
look_reads_course i (Course c) x = x == c
look_reads_course i (Slot s) x = false
look_reads_course i (Teacher h) x = (course_of i x).teacher == h
look_reads_course i (Curriculum q) x = has x (members i q)
look_reads_course i (CourseCost c) x = x == c
look_reads_course i WholeCost x = true
look_reads_course i (Price e) x = with_mates i (edit_courses e) x
look_reads_course i Missing x = true
look_reads_course i (Cheapest n p) x = pattern_reads_course i p x
look_reads_course i (Slots p) x = pattern_reads_course i (pattern_of p) x

-- x is a slot whose row a look reads
abbrev pub look_reads_slot : Look → ℕ → Bool
look_reads_slot (Course c) x = false
look_reads_slot (Slot s) x = x == s
look_reads_slot (Teacher h) x = false
look_reads_slot (Curriculum q) x = false
look_reads_slot (CourseCost c) x = false
look_reads_slot WholeCost x = false
look_reads_slot (Price e) x = has x (edit_slots e)
look_reads_slot Missing x = false
look_reads_slot (Cheapest n p) x = pattern_reads_slot p x
look_reads_slot (Slots p) x = pattern_reads_slot (pattern_of p) x

-- x is a course whose row a call reads
abbrev pub reads_course : Problem → Call → ℕ → Bool
reads_course i (Looks look) x = look_reads_course i look x
reads_course i (Edits e) x = has x (edit_courses e)

-- x is a slot whose row a call reads
abbrev pub reads_slot : Call → ℕ → Bool
reads_slot (Looks look) x = look_reads_slot look x
reads_slot (Edits e) x = has x (edit_slots e)

-- the rows of the courses that pass p and of the slots that pass q, in order
abbrev pub rows_where : Problem → (ℕ → Bool) → (ℕ → Bool) → List Row
rows_where i p q = map CourseRow (below p (course_count i)) ++ map SlotRow (below q (slot_count i))

-- the rows that a call reads
abbrev pub reads : Problem → Call → List Row
reads i call = rows_where i (reads_course i call) (reads_slot call)

-- the lectures of a row
abbrev pub row : Row → List Placed → List Placed
row (CourseRow c) t = course_row c t
row (SlotRow s) t = slot_row s t

-- two timetables agree on these rows
abbrev pub Agree : List Placed → List Placed → List Row → Type 0
Agree t u rows = All (λ r. row r t ≡ row r u) rows

-- the order of rows: courses by number, then slots by number
abbrev pub RowBefore : Row → Row → Type 0
RowBefore (CourseRow c) (CourseRow d) = c < d
RowBefore (CourseRow c) (SlotRow s) = Unit {0}
RowBefore (SlotRow s) (CourseRow c) = ⊥
RowBefore (SlotRow s) (SlotRow s2) = s < s2
