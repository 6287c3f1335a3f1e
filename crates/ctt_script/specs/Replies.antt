-- The grammar of replies.
use Rattle.std.specs.Prelude.{ℕ, List, Option, Some, None, ℤ, pos, codes}
use Rattle.ctt_problem.specs.Problem.{Problem}
use Rattle.ctt_problem.specs.declared.placed.Placed.{Placed}
use Rattle.ctt_text.specs.Places.{number}
use Rattle.ctt_text.specs.Forms.{Form, done, ◌>>=◌, list_of}
use Rattle.ctt_rules.specs.declared.cost.Cost.{Cost}
use Rattle.ctt_edits.specs.declared.fault.EditFault.{EditFault}
use Rattle.ctt_edits.specs.declared.fault.EditFault.TheVariants.{NotPlaced, SameSlot, SameCourse, AlreadyThere, CourseFull, Unavailable, Barred, Blocked, Clash, RoomTaken}
use Rattle.ctt_edits.specs.declared.offer.Offer.{Offer}
use Rattle.ctt_edits.specs.declared.offer.Offer.TheVariants as offer
use Rattle.ctt_edits.specs.declared.priced_edit.PricedEdit.{PricedEdit}
use Rattle.ctt_edits.specs.declared.shortfall.Shortfall.{Shortfall}
use Rattle.ctt_edits.specs.declared.reply.Reply.{Reply}
use Rattle.ctt_edits.specs.declared.reply.Reply.TheVariants.{Done, Refused, Lectures, Costs, Price as Priced, Missing as AreMissing, Edits as AreCheapest, Slots as AreOffers}
use Rattle.ctt_script.specs.declared.journal_fault.JournalFault.{JournalFault}
use Rattle.ctt_script.specs.declared.journal_fault.JournalFault.TheVariants.{BadWord}
use Rattle.ctt_script.specs.declared.kinds.ReplyKind.{ReplyKind}
use Rattle.ctt_script.specs.declared.kinds.ReplyKind.TheVariants as reply
use Rattle.ctt_script.specs.declared.kinds.FaultKind.{FaultKind}
use Rattle.ctt_script.specs.declared.kinds.FaultKind.TheVariants as fault
use Rattle.ctt_script.specs.Amounts.{amount_of, price_of}
use Rattle.ctt_script.specs.Kinds.{reply_kind, fault_kind}
use Rattle.ctt_script.specs.JournalWords.{word, mark_or}
use Rattle.ctt_script.specs.Calls.{course_form, room_form, slot, edit_form}

-- what follows the keyword of a fault
unfoldable pub fault_after : Problem → FaultKind → Form JournalFault EditFault
fault_after i fault.NotPlaced = done NotPlaced
fault_after i fault.SameSlot = done SameSlot
fault_after i fault.SameCourse = done SameCourse
fault_after i fault.AlreadyThere = done AlreadyThere
fault_after i fault.CourseFull = done CourseFull
fault_after i fault.Unavailable = done Unavailable
fault_after i fault.Barred = done Barred
fault_after i fault.Blocked = done Blocked
fault_after i fault.Clash = do
  c ← course_form i
  done (Clash c)
fault_after i fault.RoomTaken = do
  c ← course_form i
  done (RoomTaken c)

-- a fault
unfoldable pub fault_form : Problem → Form JournalFault EditFault
fault_form i = do
  kind ← word fault_kind fault.NotPlaced
  fault_after i kind

-- a lecture: a course, a room and a slot
unfoldable pub lecture : Problem → Form JournalFault Placed
lecture i = do
  c ← course_form i
  r ← room_form i
  s ← slot i
  done (record { course = c; slot = s; room = r })

-- a number of at most 999,999,999
unfoldable pub count : Form JournalFault ℕ
count = number BadWord

-- a count, and that many lectures
unfoldable pub lectures : Problem → Form JournalFault (List Placed)
lectures i = do
  n ← count
  list_of (lecture i) n

unfoldable pub amount_form : Form JournalFault ℕ
amount_form = word amount_of 0

-- the costs for capacity, days, compactness and stability
unfoldable pub costs_form : Form JournalFault Cost
costs_form = do
  capacity ← amount_form
  days ← amount_form
  compactness ← amount_form
  stability ← amount_form
  done (record { capacity = capacity; days = days; compactness = compactness; stability = stability })

-- a course, and the number of its missing lectures
unfoldable pub shortfall_form : Problem → Form JournalFault Shortfall
shortfall_form i = do
  c ← course_form i
  n ← count
  done (record { course = c; missing = n })

-- a count, and that many courses with missing lectures
unfoldable pub shortfalls : Problem → Form JournalFault (List Shortfall)
shortfalls i = do
  n ← count
  list_of (shortfall_form i) n

-- a price, and its edit
unfoldable pub priced_form : Problem → Form JournalFault PricedEdit
priced_form i = do
  p ← word price_of (pos 0)
  e ← edit_form i
  done (record { edit = e; price = p })

-- a count, and that many edits with their prices
unfoldable pub priced_edits : Problem → Form JournalFault (List PricedEdit)
priced_edits i = do
  n ← count
  list_of (priced_form i) n

-- what follows `-`: a fault, or `none`
unfoldable pub refusal_after : Problem → Option FaultKind → Form JournalFault Offer
refusal_after i None = done offer.Nothing
refusal_after i (Some kind) = do
  f ← fault_after i kind
  done (offer.Refused f)

unfoldable pub refusal : Problem → Form JournalFault Offer
refusal i = do
  kind ← word (mark_or (codes "none") fault_kind) None
  refusal_after i kind

-- what follows the price, or `-`
unfoldable pub offer_after : Problem → Option ℤ → Form JournalFault Offer
offer_after i None = refusal i
offer_after i (Some p) = do
  e ← edit_form i
  done (offer.Priced (record { edit = e; price = p }))

-- what a slot offers: a price and its edit, or `-` and why there is none
unfoldable pub offer_form : Problem → Form JournalFault Offer
offer_form i = do
  p ← word (mark_or (codes "-") price_of) None
  offer_after i p

-- a count, and what each of that many slots offers
unfoldable pub offers_form : Problem → Form JournalFault (List Offer)
offers_form i = do
  n ← count
  list_of (offer_form i) n

-- what follows the keyword of a reply
unfoldable pub reply_after : Problem → ReplyKind → Form JournalFault Reply
reply_after i reply.Done = done Done
reply_after i reply.Refused = do
  f ← fault_form i
  done (Refused f)
reply_after i reply.Lectures = do
  ls ← lectures i
  done (Lectures ls)
reply_after i reply.Costs = do
  c ← costs_form
  done (Costs c)
reply_after i reply.Price = do
  p ← word price_of (pos 0)
  done (Priced p)
reply_after i reply.Missing = do
  xs ← shortfalls i
  done (AreMissing xs)
reply_after i reply.Edits = do
  xs ← priced_edits i
  done (AreCheapest xs)
reply_after i reply.Slots = do
  xs ← offers_form i
  done (AreOffers xs)

-- a reply
unfoldable pub reply_form : Problem → Form JournalFault Reply
reply_form i = do
  kind ← word reply_kind reply.Done
  reply_after i kind
