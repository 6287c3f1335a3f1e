-- The words in which calls, replies and journals are written.
use Rattle.std.specs.Prelude.{ℕ, List, [], ◌∷◌, ◌++◌, flat_map, length, codes, slice_index_or, Option, Some, None}
use Rattle.std.specs.Fmt.{decimal, signed_decimal}
use Rattle.ctt_problem.specs.Problem.{Problem, day_of, period_of}
use Rattle.ctt_problem.specs.declared.placed.Placed.{Placed}
use Rattle.ctt_rules.specs.declared.cost.Cost.{Cost}
use Rattle.ctt_edits.specs.declared.edit.Edit.{Edit}
use Rattle.ctt_edits.specs.declared.edit.Edit.TheVariants.{Place, Move, Swap, Reroom, Drop}
use Rattle.ctt_edits.specs.declared.looks.Look.{Look}
use Rattle.ctt_edits.specs.declared.looks.Look.TheVariants.{Course, Slot, Teacher, Curriculum, CourseCost, Cost as CostLook, Price, Missing, Cheapest, Slots}
use Rattle.ctt_edits.specs.declared.pattern.Pattern.{Pattern}
use Rattle.ctt_edits.specs.declared.pattern.Pattern.TheVariants.{Place as AnyPlace, Move as AnyMove, Swap as AnySwap, Reroom as AnyReroom}
use Rattle.ctt_edits.specs.Offers.{pattern_of}
use Rattle.ctt_edits.specs.declared.offer.Offer.{Offer}
use Rattle.ctt_edits.specs.declared.offer.Offer.TheVariants as offer
use Rattle.ctt_edits.specs.declared.priced_edit.PricedEdit.{PricedEdit}
use Rattle.ctt_edits.specs.declared.shortfall.Shortfall.{Shortfall}
use Rattle.ctt_edits.specs.declared.call.Call.{Call}
use Rattle.ctt_edits.specs.declared.call.Call.TheVariants.{Look as Looks, Edit as Edits}
use Rattle.ctt_edits.specs.declared.fault.EditFault.{EditFault}
use Rattle.ctt_edits.specs.declared.fault.EditFault.TheVariants.{NotPlaced, SameSlot, SameCourse, AlreadyThere, CourseFull, Unavailable, Barred, Blocked, Clash, RoomTaken}
use Rattle.ctt_edits.specs.declared.reply.Reply.{Reply}
use Rattle.ctt_edits.specs.declared.reply.Reply.TheVariants.{Done, Refused, Lectures, Costs, Price as Priced, Missing as AreMissing, Edits as AreCheapest, Slots as AreOffers}
use Rattle.ctt_draft.specs.declared.asked.Asked.{Asked}
use Rattle.ctt_core.specs.declared.journal.JournalEntry.{JournalEntry}

-- names, and days and periods in decimal
abbrev pub course_word : Problem → ℕ → List ℕ
course_word i c = slice_index_or i.course_names c []

abbrev pub room_word : Problem → ℕ → List ℕ
room_word i r = slice_index_or i.room_names r []

abbrev pub day_word : Problem → ℕ → List ℕ
day_word i s = decimal (day_of i s)

abbrev pub period_word : Problem → ℕ → List ℕ
period_word i s = decimal (period_of i s)

abbrev pub edit_words : Problem → Edit → List (List ℕ)
edit_words i (Place c s r) = codes "place" ∷ course_word i c ∷ room_word i r ∷ day_word i s ∷ period_word i s ∷ []
edit_words i (Move c s s2 r) = codes "move" ∷ course_word i c ∷ day_word i s ∷ period_word i s ∷ room_word i r ∷ day_word i s2 ∷ period_word i s2 ∷ []
edit_words i (Swap c s c2 s2) = codes "swap" ∷ course_word i c ∷ day_word i s ∷ period_word i s ∷ course_word i c2 ∷ day_word i s2 ∷ period_word i s2 ∷ []
edit_words i (Reroom c s r) = codes "reroom" ∷ course_word i c ∷ room_word i r ∷ day_word i s ∷ period_word i s ∷ []
edit_words i (Drop c s) = codes "drop" ∷ course_word i c ∷ day_word i s ∷ period_word i s ∷ []

-- `*` for what a pattern leaves open
abbrev pub room_choice_word : Problem → Option ℕ → List ℕ
room_choice_word i None = codes "*"
room_choice_word i (Some r) = room_word i r

abbrev pub day_choice_word : Problem → Option ℕ → List ℕ
day_choice_word i None = codes "*"
day_choice_word i (Some s) = day_word i s

abbrev pub period_choice_word : Problem → Option ℕ → List ℕ
period_choice_word i None = codes "*"
period_choice_word i (Some s) = period_word i s

abbrev pub pattern_words : Problem → Pattern → List (List ℕ)
pattern_words i (AnyPlace c s r) = codes "place" ∷ course_word i c ∷ room_choice_word i r ∷ day_choice_word i s ∷ period_choice_word i s ∷ []
pattern_words i (AnyMove c s s2 r) = codes "move" ∷ course_word i c ∷ day_word i s ∷ period_word i s ∷ room_choice_word i r ∷ day_choice_word i s2 ∷ period_choice_word i s2 ∷ []
pattern_words i (AnySwap c s) = codes "swap" ∷ course_word i c ∷ day_word i s ∷ period_word i s ∷ codes "*" ∷ codes "*" ∷ codes "*" ∷ []
pattern_words i (AnyReroom c s r) = codes "reroom" ∷ course_word i c ∷ room_choice_word i r ∷ day_word i s ∷ period_word i s ∷ []

abbrev pub look_words : Problem → Look → List (List ℕ)
look_words i (Course c) = codes "course" ∷ course_word i c ∷ []
look_words i (Slot s) = codes "slot" ∷ day_word i s ∷ period_word i s ∷ []
look_words i (Teacher h) = codes "teacher" ∷ slice_index_or i.teacher_names h [] ∷ []
look_words i (Curriculum q) = codes "curriculum" ∷ slice_index_or i.curriculum_names q [] ∷ []
look_words i (CourseCost c) = codes "coursecost" ∷ course_word i c ∷ []
look_words i CostLook = codes "cost" ∷ []
look_words i (Price e) = codes "price" ∷ edit_words i e
look_words i Missing = codes "missing" ∷ []
look_words i (Cheapest n p) = codes "cheapest" ∷ decimal n ∷ pattern_words i p
look_words i (Slots p) = codes "slots" ∷ pattern_words i (pattern_of p)

abbrev pub call_words : Problem → Call → List (List ℕ)
call_words i (Looks l) = look_words i l
call_words i (Edits e) = edit_words i e

abbrev pub fault_words : Problem → EditFault → List (List ℕ)
fault_words i NotPlaced = codes "notplaced" ∷ []
fault_words i SameSlot = codes "sameslot" ∷ []
fault_words i SameCourse = codes "samecourse" ∷ []
fault_words i AlreadyThere = codes "already" ∷ []
fault_words i CourseFull = codes "full" ∷ []
fault_words i Unavailable = codes "unavailable" ∷ []
fault_words i Barred = codes "barred" ∷ []
fault_words i Blocked = codes "blocked" ∷ []
fault_words i (Clash c) = codes "clash" ∷ course_word i c ∷ []
fault_words i (RoomTaken c) = codes "roomtaken" ∷ course_word i c ∷ []

abbrev pub lecture_words : Problem → Placed → List (List ℕ)
lecture_words i l = course_word i l.course ∷ room_word i l.room ∷ day_word i l.slot ∷ period_word i l.slot ∷ []

abbrev pub cost_words : Cost → List (List ℕ)
cost_words c = codes "costs" ∷ decimal c.capacity ∷ decimal c.days ∷ decimal c.compactness ∷ decimal c.stability ∷ []

abbrev pub shortfall_words : Problem → Shortfall → List (List ℕ)
shortfall_words i s = course_word i s.course ∷ decimal s.missing ∷ []

abbrev pub priced_words : Problem → PricedEdit → List (List ℕ)
priced_words i p = signed_decimal p.price ∷ edit_words i p.edit

-- the cheapest edit to a slot with its price, or `-` and why there is none
abbrev pub offer_words : Problem → Offer → List (List ℕ)
offer_words i (offer.Priced p) = priced_words i p
offer_words i (offer.Refused f) = codes "-" ∷ fault_words i f
offer_words i offer.Nothing = codes "-" ∷ codes "none" ∷ []

abbrev pub reply_words : Problem → Reply → List (List ℕ)
reply_words i Done = codes "done" ∷ []
reply_words i (Refused f) = codes "refused" ∷ fault_words i f
reply_words i (Lectures ls) = codes "lectures" ∷ decimal (length ls) ∷ flat_map (lecture_words i) ls
reply_words i (Costs c) = cost_words c
reply_words i (Priced p) = codes "price" ∷ signed_decimal p ∷ []
reply_words i (AreMissing xs) = codes "missing" ∷ decimal (length xs) ∷ flat_map (shortfall_words i) xs
reply_words i (AreCheapest xs) = codes "prices" ∷ decimal (length xs) ∷ flat_map (priced_words i) xs
reply_words i (AreOffers xs) = codes "slots" ∷ decimal (length xs) ∷ flat_map (offer_words i) xs

abbrev pub asked_words : Problem → Asked → List (List ℕ)
asked_words i s = call_words i s.call ++ reply_words i s.reply

abbrev pub entry_words : Problem → JournalEntry → List (List ℕ)
entry_words i e = codes "entry" ∷ decimal e.planner ∷ decimal (length e.asked) ∷ flat_map (asked_words i) e.asked

abbrev pub journal_words : Problem → List JournalEntry → List (List ℕ)
journal_words i es = codes "journal" ∷ decimal (length es) ∷ (flat_map (entry_words i) es ++ (codes "END." ∷ []))
