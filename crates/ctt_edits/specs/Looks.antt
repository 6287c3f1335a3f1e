-- The replies to looks.
use Rattle.std.specs.Prelude.{ℕ, ◌<◌, ◌≤◌, ℤ, List, filter, ◌==◌, Option, Some, None, Result, Ok, Err}
use Rattle.ctt_problem.specs.Problem.{Problem, course_of, members, course_count, slot_count, teacher_count, curriculum_count}
use Rattle.ctt_problem.specs.Timetable.{course_row, slot_row}
use Rattle.ctt_problem.specs.declared.placed.Placed.{Placed}
use Rattle.ctt_rules.specs.Penalty.{penalty, course_cost, lectures_of}
use Rattle.ctt_board.specs.Boards.{delta}
use Rattle.ctt_edits.specs.Edits.{EditFits, edit_fault, change}
use Rattle.ctt_edits.specs.Missing.{missing}
use Rattle.ctt_edits.specs.Offers.{pattern_of, offers}
use Rattle.ctt_edits.specs.Patterns.{PatternFits, pattern_fault, cheapest}
use Rattle.ctt_edits.specs.declared.edit.Edit.{Edit}
use Rattle.ctt_edits.specs.declared.fault.EditFault.{EditFault}
use Rattle.ctt_edits.specs.declared.reply.Reply.{Reply}
use Rattle.ctt_edits.specs.declared.reply.Reply.TheVariants.{Refused, Lectures, Costs, Price as Priced, Missing as AreMissing, Edits as AreCheapest, Slots as AreOffers}
use Rattle.ctt_edits.specs.declared.looks.Look.{Look}
use Rattle.ctt_edits.specs.declared.looks.Look.TheVariants.{Course, Slot, Teacher, Curriculum, CourseCost, Price, Missing, Cheapest, Slots, Cost as WholeCost}

-- the answer, or a refusal if there is a fault
abbrev pub told_or : Option EditFault → Reply → Reply
told_or None answer = answer
told_or (Some f) answer = Refused f

-- its numbers are those of the instance, and it requests at most 1,000 edits
abbrev pub LookFits : Problem → Look → Type 0
LookFits i (Course c) = c < course_count i
LookFits i (Slot s) = s < slot_count i
LookFits i (Teacher h) = h < teacher_count i
LookFits i (Curriculum q) = q < curriculum_count i
LookFits i (CourseCost c) = c < course_count i
LookFits i (Price e) = EditFits i e
LookFits i WholeCost = Unit {0}
LookFits i Missing = Unit {0}
LookFits i (Cheapest n p) = (n ≤ 1000) × PatternFits i p
LookFits i (Slots p) = PatternFits i (pattern_of p)

-- the lectures of a teacher's courses
abbrev pub teacher_row : Problem → ℕ → List Placed → List Placed
teacher_row i h t = filter (λ l. (course_of i l.course).teacher == h) t

-- the penalty after an edit minus the penalty before it
abbrev pub price : Problem → List Placed → Edit → ℤ
price i t e = delta i t (change t e)

-- the price, or the fault if there is one
abbrev pub priced_by : Option EditFault → ℤ → Result ℤ EditFault
priced_by None p = Ok p
priced_by (Some f) p = Err f

-- the price of an edit, or the first fault that holds
abbrev pub priced : Problem → List Placed → Edit → Result ℤ EditFault
priced i t e = priced_by (edit_fault i t e) (price i t e)

-- the reply to a look
abbrev pub shown : Problem → List Placed → Look → Reply
shown i t (Course c) = Lectures (course_row c t)
shown i t (Slot s) = Lectures (slot_row s t)
shown i t (Teacher h) = Lectures (teacher_row i h t)
shown i t (Curriculum q) = Lectures (lectures_of (members i q) t)
shown i t (CourseCost c) = Costs (course_cost i t c)
shown i t (Price e) = told_or (edit_fault i t e) (Priced (price i t e))
shown i t WholeCost = Costs (penalty i t)
shown i t Missing = AreMissing (missing i t)
shown i t (Cheapest n p) = told_or (pattern_fault i t p) (AreCheapest (cheapest i t n p))
shown i t (Slots p) = told_or (pattern_fault i t (pattern_of p)) (AreOffers (offers i t p))
