-- Laws for the crates above.
use Rattle.std.specs.Prelude.{ℕ, ℤ, ◌≡◌, ◌<◌, ◌≤◌, true, false, List, [], ◌∷◌, filter, Some, None, is_none, Ok, Err}
use Rattle.std.specs.Ordering.{int_eq}
use Rattle.std.specs.Int.Signed.{lt_z}
use Rattle.std.specs.List.{list_any, Contains, AllByRecursion as Each}
use Rattle.ctt_problem.specs.Lists.{has, Pairwise}
use Rattle.ctt_problem.specs.Problem.{Problem, IsProblem, course_count, slot_count, room_count, clash}
use Rattle.ctt_problem.specs.Timetable.{Ascending, Fits, IsTimetable}
use Rattle.ctt_problem.specs.declared.placed.Placed.{Placed}
use Rattle.ctt_rules.specs.Hard.{Lawful}
use Rattle.ctt_board.specs.Changes.{room_at, ChangeFits}
use Rattle.ctt_edits.specs.Calls.{CallFits, reply, cells_of_call, edit_courses, edit_slots, with_mates, pattern_reads_course, pattern_reads_slot, reads, Agree, RowBefore}
use Rattle.ctt_edits.specs.declared.call.Call.{Call}
use Rattle.ctt_edits.specs.declared.edit.Edit.{Edit}
use Rattle.ctt_edits.specs.declared.fault.EditFault.{EditFault}
use Rattle.ctt_edits.specs.declared.fault.EditFault.TheVariants.{Clash}
use Rattle.ctt_edits.specs.Fitting.{FaultFits, IsReply}
use Rattle.ctt_edits.specs.Edits.{EditFits, try_fault, edit_fault, edited, change}
use Rattle.ctt_edits.specs.Looks.{priced}
use Rattle.ctt_edits.specs.Offers.{pattern_of, edits_to, fault_rank, is_better, slot_offer, offers}
use Rattle.ctt_edits.specs.Openings.{opening}
use Rattle.ctt_edits.specs.Patterns.{PatternFits, pattern_fault, edits_of, is_cheaper, by_price, cheapest}
use Rattle.ctt_edits.specs.Table.{outcome, by_table}
use Rattle.ctt_edits.specs.declared.pattern.Pattern.{Pattern}
use Rattle.ctt_edits.specs.declared.offer.Offer.{Offer}
use Rattle.ctt_edits.specs.declared.offer.Offer.TheVariants.{Priced, Refused, Nothing}
use Rattle.ctt_edits.specs.declared.priced_edit.PricedEdit.{PricedEdit}
use Rattle.ctt_edits.specs.declared.slot_pattern.SlotPattern.{SlotPattern}

-- the order by price is a stable sort: prices ascend, and edits of equal price are those of the
-- list, in its order
abbrev pub PricesAscend : Type 0
PricesAscend = (list : List PricedEdit) → Pairwise (λ x y. is_cheaper y x ≡ false) (by_price list)
    × ((price : ℤ) → filter (λ x. int_eq x.price price) (by_price list) ≡ filter (λ x. int_eq x.price price) list)

-- if a pattern has a fault, each of its edits is refused
abbrev pub PatternFaultStands : Type 0
PatternFaultStands = (i : Problem) (t : List Placed) (p : Pattern) (fault : EditFault) → PatternFits i p → pattern_fault i t p ≡ Some fault
    → Each (λ e. is_none (edit_fault i t e) ≡ false) (edits_of i p)

-- the price that a slot offers is that of an edit to the slot that is accepted
abbrev pub SlotPriceStands : Type 0
SlotPriceStands = (i : Problem) (t : List Placed) (p : SlotPattern) (s : ℕ) (e : PricedEdit) → slot_offer i t p s ≡ Priced e
    → Contains (edits_to i p s) e.edit × (priced i t e.edit ≡ Ok e.price)

-- no edit to the slot that is accepted is cheaper
abbrev pub SlotPriceIsLeast : Type 0
SlotPriceIsLeast = (i : Problem) (t : List Placed) (p : SlotPattern) (s : ℕ) (e : PricedEdit) → slot_offer i t p s ≡ Priced e
    → Each (λ other. (price : ℤ) → priced i t other ≡ Ok price → lt_z price e.price ≡ false) (edits_to i p s)

-- the fault that a slot offers is that of an edit to the slot
abbrev pub SlotFaultStands : Type 0
SlotFaultStands = (i : Problem) (t : List Placed) (p : SlotPattern) (s : ℕ) (f : EditFault) → slot_offer i t p s ≡ Refused f
    → (e : Edit) × Contains (edits_to i p s) e × (edit_fault i t e ≡ Some f)

-- each edit to the slot is refused, for a fault that comes no later
abbrev pub SlotFaultIsLast : Type 0
SlotFaultIsLast = (i : Problem) (t : List Placed) (p : SlotPattern) (s : ℕ) (f : EditFault) → slot_offer i t p s ≡ Refused f
    → Each (λ e. (g : EditFault) × (edit_fault i t e ≡ Some g) × (fault_rank g ≤ fault_rank f)) (edits_to i p s)

-- if there is a room, each slot offers a price or a fault
abbrev pub SlotsOffer : Type 0
SlotsOffer = (i : Problem) (t : List Placed) (p : SlotPattern) (s : ℕ) → PatternFits i (pattern_of p) → 0 < room_count i → s < slot_count i
    → slot_offer i t p s ≡ Nothing → ⊥

-- the first edit, if there is one, has a price that is offered, and none is lower; if there is
-- none, no price is offered
abbrev pub HasLeastOffer : List PricedEdit → List Offer → Type 0
HasLeastOffer [] list = Each (λ o. (e : PricedEdit) → o ≡ Priced e → ⊥) list
HasLeastOffer (e ∷ es) list = ((x : PricedEdit) × Contains list (Priced x) × (x.price ≡ e.price)) × Each (λ o. is_better o (Priced e) ≡ false) list

-- the cheapest edit of a pattern has the least price that a slot offers
abbrev pub CheapestIsLeastOffer : Type 0
CheapestIsLeastOffer = (i : Problem) (t : List Placed) (p : SlotPattern) → PatternFits i (pattern_of p) → HasLeastOffer (cheapest i t 1 (pattern_of p)) (offers i t p)

-- an edit without a fault keeps a timetable lawful
abbrev pub EditsKeepLawful : Type 0
EditsKeepLawful = (i : Problem) (t : List Placed) (e : Edit) → Lawful i t → EditFits i e → edit_fault i t e ≡ None → Lawful i (edited t e)

-- the change of an edit without a fault fits
abbrev pub EditsFit : Type 0
EditsFit = (i : Problem) (t : List Placed) (e : Edit) → Lawful i t → EditFits i e → edit_fault i t e ≡ None → ChangeFits i (change t e) t

-- if placing a lecture is refused for a clash, the course named clashes, and no clashing course
-- with a lecture in the slot has a lower number
abbrev pub ClashIsLeast : Type 0
ClashIsLeast = (i : Problem) (t : List Placed) (c s r d : ℕ) → Ascending t → try_fault i t c s r ≡ Some (Clash d)
    → (clash i c d ≡ true) × Each (λ (l : Placed). l.slot ≡ s → clash i c l.course ≡ true → d ≤ l.course) t

-- on two lawful timetables that agree on the rows that a call reads, the reply and the changed
-- cells are the same
abbrev pub CallFrame : Type 0
CallFrame = (i : Problem) (t u : List Placed) (call : Call) → Lawful i t → Lawful i u → CallFits i call → Agree t u (reads i call)
    → (reply i t call ≡ reply i u call) × (cells_of_call i t call ≡ cells_of_call i u call)

-- if there is a room and a slot, a pattern reads exactly the rows that the prices of its edits read
abbrev pub PatternReads : Type 0
PatternReads = (i : Problem) (p : Pattern) → PatternFits i p → 0 < room_count i → 0 < slot_count i
    → ((c : ℕ) → c < course_count i → pattern_reads_course i p c ≡ list_any (λ e. with_mates i (edit_courses e) c) (edits_of i p))
    × ((s : ℕ) → s < slot_count i → pattern_reads_slot p s ≡ list_any (λ e. has s (edit_slots e)) (edits_of i p))

-- the rows that a call reads ascend, each once
abbrev pub ReadsAscend : Type 0
ReadsAscend = (i : Problem) (call : Call) → Pairwise RowBefore (reads i call)

-- the reply to a call on a lawful timetable fits and is short
abbrev pub RepliesFit : Type 0
RepliesFit = (i : Problem) (t : List Placed) (call : Call) → IsProblem i → Lawful i t → CallFits i call → IsReply i (reply i t call)

-- the fault and the change of an edit give the outcome that the table of edits defines
abbrev pub EditIsTable : Type 0
EditIsTable = (i : Problem) (t : List Placed) (e : Edit) → outcome i t e ≡ by_table i t e

-- the timetable made by placing lectures in order is lawful
abbrev pub OpeningIsLawful : Type 0
OpeningIsLawful = (i : Problem) (ls t : List Placed) → Each (Fits i) ls → opening i ls ≡ Ok t → Lawful i t

-- if the fault of a lecture that cannot be placed names a course, it is one of the instance
abbrev pub OpeningFaultsFit : Type 0
OpeningFaultsFit = (i : Problem) (ls : List Placed) (at : ℕ) (fault : EditFault) → Each (Fits i) ls → opening i ls ≡ Err (at, fault) → FaultFits i fault

-- two timetables are equal if each course has the same room, or none, in each slot
abbrev pub RoomsDetermine : Type 0
RoomsDetermine = (i : Problem) (t u : List Placed) → IsTimetable i t → IsTimetable i u → ((c s : ℕ) → c < course_count i → s < slot_count i → room_at c s t ≡ room_at c s u) → t ≡ u
