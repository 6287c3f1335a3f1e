-- The grammar of calls.
use Rattle.std.specs.Prelude.{ℕ, List, Option, Some, None, codes}
use Rattle.ctt_problem.specs.Problem.{Problem, number_in, slot_of}
use Rattle.ctt_text.specs.Forms.{Form, done, ◌>>=◌}
use Rattle.ctt_edits.specs.declared.edit.Edit.{Edit}
use Rattle.ctt_edits.specs.declared.edit.Edit.TheVariants.{Place, Move, Swap, Reroom, Drop}
use Rattle.ctt_edits.specs.declared.looks.Look.{Look}
use Rattle.ctt_edits.specs.declared.looks.Look.TheVariants.{Course, Slot, Teacher, Curriculum, CourseCost, Cost, Price, Missing, Cheapest, Slots}
use Rattle.ctt_edits.specs.declared.pattern.Pattern.{Pattern}
use Rattle.ctt_edits.specs.declared.pattern.Pattern.TheVariants.{Place as AnyPlace, Move as AnyMove, Swap as AnySwap, Reroom as AnyReroom}
use Rattle.ctt_edits.specs.declared.slot_pattern.SlotPattern.{SlotPattern}
use Rattle.ctt_edits.specs.declared.slot_pattern.SlotPattern.TheVariants.{Place as ToAnyPlace, Move as ToAnyMove, Swap as ToAnySwap}
use Rattle.ctt_edits.specs.declared.call.Call.{Call}
use Rattle.ctt_edits.specs.declared.call.Call.TheVariants.{Look as Looks, Edit as Edits}
use Rattle.ctt_script.specs.declared.journal_fault.JournalFault.{JournalFault}
use Rattle.ctt_script.specs.declared.kinds.EditKind.{EditKind}
use Rattle.ctt_script.specs.declared.kinds.EditKind.TheVariants as edit
use Rattle.ctt_script.specs.declared.kinds.LookKind.{LookKind}
use Rattle.ctt_script.specs.declared.kinds.LookKind.TheVariants as look
use Rattle.ctt_script.specs.declared.kinds.PatternKind.{PatternKind}
use Rattle.ctt_script.specs.declared.kinds.PatternKind.TheVariants as pattern
use Rattle.ctt_script.specs.declared.kinds.SlotPatternKind.{SlotPatternKind}
use Rattle.ctt_script.specs.declared.kinds.SlotPatternKind.TheVariants as to_any
use Rattle.ctt_script.specs.declared.kinds.CallKind.{CallKind}
use Rattle.ctt_script.specs.declared.kinds.CallKind.TheVariants as kind
use Rattle.ctt_script.specs.Amounts.{number_below}
use Rattle.ctt_script.specs.Kinds.{edit_kind, pattern_kind, slot_pattern_kind, look_kind, call_kind}
use Rattle.ctt_script.specs.JournalWords.{word, mark_or, name, label}

-- names in the instance, each parsed to its number
unfoldable pub course_form : Problem → Form JournalFault ℕ
course_form i = name i.course_names

unfoldable pub room_form : Problem → Form JournalFault ℕ
room_form i = name i.room_names

unfoldable pub teacher : Problem → Form JournalFault ℕ
teacher i = name i.teacher_names

unfoldable pub curriculum_form : Problem → Form JournalFault ℕ
curriculum_form i = name i.curriculum_names

-- a day and a period of that day, parsed to their slot
unfoldable pub slot : Problem → Form JournalFault ℕ
slot i = do
  day ← word (number_below i.days) 0
  period ← word (number_below i.periods) 0
  done (slot_of i day period)

-- what follows the keyword of an edit
unfoldable pub edit_after : Problem → EditKind → Form JournalFault Edit
edit_after i edit.Place = do
  c ← course_form i
  r ← room_form i
  s ← slot i
  done (Place c s r)
edit_after i edit.Move = do
  c ← course_form i
  s ← slot i
  r ← room_form i
  s2 ← slot i
  done (Move c s s2 r)
edit_after i edit.Swap = do
  c ← course_form i
  s ← slot i
  c2 ← course_form i
  s2 ← slot i
  done (Swap c s c2 s2)
edit_after i edit.Reroom = do
  c ← course_form i
  r ← room_form i
  s ← slot i
  done (Reroom c s r)
edit_after i edit.Drop = do
  c ← course_form i
  s ← slot i
  done (Drop c s)

-- an edit
unfoldable pub edit_form : Problem → Form JournalFault Edit
edit_form i = do
  kind ← word edit_kind edit.Place
  edit_after i kind

-- `Some None` for `*`, which stands for any, or else what the word means
abbrev pub any_or : {A : Type 0} → (List ℕ → Option A) → List ℕ → Option (Option A)
any_or meaning w = mark_or (codes "*") meaning w

-- a room, or `*` for any
unfoldable pub room_choice : Problem → Form JournalFault (Option ℕ)
room_choice i = word (any_or (number_in i.room_names)) None

-- what follows the day of a slot: its period or, if the day was `*`, a second `*`
unfoldable pub slot_after : Problem → Option ℕ → Form JournalFault (Option ℕ)
slot_after i None = do
  star ← label (codes "*")
  done None
slot_after i (Some day) = do
  period ← word (number_below i.periods) 0
  done (Some (slot_of i day period))

-- a day and a period of that day, or `* *` for any slot
unfoldable pub slot_choice : Problem → Form JournalFault (Option ℕ)
slot_choice i = do
  day ← word (any_or (number_below i.days)) None
  slot_after i day

-- what follows the keyword of an edit pattern
unfoldable pub pattern_after : Problem → PatternKind → Form JournalFault Pattern
pattern_after i pattern.Place = do
  c ← course_form i
  r ← room_choice i
  s ← slot_choice i
  done (AnyPlace c s r)
pattern_after i pattern.Move = do
  c ← course_form i
  s ← slot i
  r ← room_choice i
  s2 ← slot_choice i
  done (AnyMove c s s2 r)
pattern_after i pattern.Swap = do
  c ← course_form i
  s ← slot i
  course_star ← label (codes "*")
  day_star ← label (codes "*")
  period_star ← label (codes "*")
  done (AnySwap c s)
pattern_after i pattern.Reroom = do
  c ← course_form i
  r ← room_choice i
  s ← slot i
  done (AnyReroom c s r)

-- an edit pattern
unfoldable pub pattern_form : Problem → Form JournalFault Pattern
pattern_form i = do
  kind ← word pattern_kind pattern.Place
  pattern_after i kind

-- `* *` for any slot
unfoldable pub any_slot : Form JournalFault Unit
any_slot = do
  day_star ← label (codes "*")
  label (codes "*")

-- what follows the keyword of a pattern that leads to any slot
unfoldable pub anywhere_after : Problem → SlotPatternKind → Form JournalFault SlotPattern
anywhere_after i to_any.Place = do
  c ← course_form i
  r ← room_choice i
  star ← any_slot
  done (ToAnyPlace c r)
anywhere_after i to_any.Move = do
  c ← course_form i
  s ← slot i
  r ← room_choice i
  star ← any_slot
  done (ToAnyMove c s r)
anywhere_after i to_any.Swap = do
  c ← course_form i
  s ← slot i
  course_star ← label (codes "*")
  star ← any_slot
  done (ToAnySwap c s)

-- a pattern that leads to any slot
unfoldable pub anywhere_form : Problem → Form JournalFault SlotPattern
anywhere_form i = do
  kind ← word slot_pattern_kind to_any.Place
  anywhere_after i kind

-- what follows the keyword of a look
unfoldable pub look_after : Problem → LookKind → Form JournalFault Look
look_after i look.Course = do
  c ← course_form i
  done (Course c)
look_after i look.Slot = do
  s ← slot i
  done (Slot s)
look_after i look.Teacher = do
  h ← teacher i
  done (Teacher h)
look_after i look.Curriculum = do
  q ← curriculum_form i
  done (Curriculum q)
look_after i look.CourseCost = do
  c ← course_form i
  done (CourseCost c)
look_after i look.Cost = done Cost
look_after i look.Price = do
  e ← edit_form i
  done (Price e)
look_after i look.Missing = done Missing
look_after i look.Cheapest = do
  n ← word (number_below 1001) 0
  p ← pattern_form i
  done (Cheapest n p)
look_after i look.Slots = do
  p ← anywhere_form i
  done (Slots p)

-- a look
unfoldable pub look_form : Problem → Form JournalFault Look
look_form i = do
  kind ← word look_kind look.Cost
  look_after i kind

-- what follows the keyword of a call
unfoldable pub call_after : Problem → CallKind → Form JournalFault Call
call_after i (kind.Edit k) = do
  e ← edit_after i k
  done (Edits e)
call_after i (kind.Look k) = do
  l ← look_after i k
  done (Looks l)

-- a call: an edit or a look
unfoldable pub call_form : Problem → Form JournalFault Call
call_form i = do
  kind ← word call_kind (kind.Look look.Cost)
  call_after i kind
