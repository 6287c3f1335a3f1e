-- Faults and replies that fit an instance, with numbers within the limits of files.
use Rattle.std.specs.Prelude.{ℕ, ◌<◌, ◌≤◌, List, length, unsigned_abs}
use Rattle.std.specs.List.{AllByRecursion as Each}
use Rattle.ctt_problem.specs.Problem.{Problem, course_count}
use Rattle.ctt_problem.specs.Timetable.{Fits}
use Rattle.ctt_rules.specs.declared.cost.Cost.{Cost}
use Rattle.ctt_edits.specs.Edits.{EditFits}
use Rattle.ctt_edits.specs.declared.fault.EditFault.{EditFault}
use Rattle.ctt_edits.specs.declared.fault.EditFault.TheVariants.{Clash, RoomTaken}
use Rattle.ctt_edits.specs.declared.offer.Offer.{Offer}
use Rattle.ctt_edits.specs.declared.offer.Offer.TheVariants.{Priced, Refused as IsRefused, Nothing}
use Rattle.ctt_edits.specs.declared.priced_edit.PricedEdit.{PricedEdit}
use Rattle.ctt_edits.specs.declared.reply.Reply.{Reply}
use Rattle.ctt_edits.specs.declared.reply.Reply.TheVariants.{Done, Refused, Lectures, Costs, Price, Missing, Edits, Slots}
use Rattle.ctt_edits.specs.declared.shortfall.Shortfall.{Shortfall}

-- the course that it names, if any, is one of the instance
abbrev pub FaultFits : Problem → EditFault → Type 0
FaultFits i (Clash c) = c < course_count i
FaultFits i (RoomTaken c) = c < course_count i
FaultFits i fault = Unit {0}

-- a number below 2^63
abbrev pub IsAmount : ℕ → Type 0
IsAmount n = n ≤ 9223372036854775807

-- each of the four costs is below 2^63
abbrev pub CostFits : Cost → Type 0
CostFits c = IsAmount c.capacity × IsAmount c.days × IsAmount c.compactness × IsAmount c.stability

-- a course of the instance, of which at most 999,999,999 lectures are missing
abbrev pub ShortfallFits : Problem → Shortfall → Type 0
ShortfallFits i s = (s.course < course_count i) × (s.missing ≤ 999999999)

-- an edit of the instance, with an absolute price below 2^63
abbrev pub PricedFits : Problem → PricedEdit → Type 0
PricedFits i p = EditFits i p.edit × IsAmount (unsigned_abs p.price)

-- an edit with its price, or a fault, that fits
abbrev pub OfferFits : Problem → Offer → Type 0
OfferFits i (Priced p) = PricedFits i p
OfferFits i (IsRefused f) = FaultFits i f
OfferFits i Nothing = Unit {0}

-- its numbers are those of the instance, and its costs and absolute prices are below 2^63
abbrev pub ReplyFits : Problem → Reply → Type 0
ReplyFits i Done = Unit {0}
ReplyFits i (Refused f) = FaultFits i f
ReplyFits i (Lectures ls) = Each (Fits i) ls
ReplyFits i (Costs c) = CostFits c
ReplyFits i (Price p) = IsAmount (unsigned_abs p)
ReplyFits i (Missing courses) = Each (ShortfallFits i) courses
ReplyFits i (Edits edits) = Each (PricedFits i) edits
ReplyFits i (Slots offers) = Each (OfferFits i) offers

-- at most 999,999,999 elements, so that a file can state their number
abbrev pub AreFew : {A : Type 0} → List A → Type 0
AreFew list = length list ≤ 999999999

-- the list of a reply, if it has one, is that short
abbrev pub IsShortReply : Reply → Type 0
IsShortReply (Lectures ls) = AreFew ls
IsShortReply (Missing courses) = AreFew courses
IsShortReply (Edits edits) = AreFew edits
IsShortReply (Slots offers) = AreFew offers
IsShortReply reply = Unit {0}

-- a reply that fits and is short
abbrev pub IsReply : Problem → Reply → Type 0
IsReply i r = ReplyFits i r × IsShortReply r
