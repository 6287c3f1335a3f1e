-- What each slot offers to a pattern that leaves its new slot open: the price of the cheapest edit
-- to it, or why all of them are refused.
use Rattle.std.specs.Prelude.{ℕ, Bool, true, false, not, ◌==◌, nat_lt, List, map, filter, Option, Some, None}
use Rattle.std.specs.List.{list_any, find, range_with_len}
use Rattle.std.specs.Option.{unwrap_or}
use Rattle.ctt_problem.specs.Problem.{Problem, course_count, slot_count, room_count}
use Rattle.ctt_problem.specs.declared.placed.Placed.{Placed}
use Rattle.ctt_edits.specs.Edits.{edit_fault}
use Rattle.ctt_edits.specs.Patterns.{given_or_all, edits_of, with_price, is_cheaper}
use Rattle.ctt_edits.specs.declared.edit.Edit.{Edit}
use Rattle.ctt_edits.specs.declared.edit.Edit.TheVariants.{Place, Move, Swap, Reroom, Drop}
use Rattle.ctt_edits.specs.declared.fault.EditFault.{EditFault}
use Rattle.ctt_edits.specs.declared.fault.EditFault.TheVariants.{NotPlaced, SameSlot, SameCourse, AlreadyThere, CourseFull, Unavailable, Barred, Blocked, Clash, RoomTaken}
use Rattle.ctt_edits.specs.declared.offer.Offer.{Offer}
use Rattle.ctt_edits.specs.declared.offer.Offer.TheVariants.{Priced, Refused, Nothing}
use Rattle.ctt_edits.specs.declared.pattern.Pattern.{Pattern}
use Rattle.ctt_edits.specs.declared.pattern.Pattern.TheVariants.{Place as AnyPlace, Move as AnyMove, Swap as AnySwap}
use Rattle.ctt_edits.specs.declared.priced_edit.PricedEdit.{PricedEdit}
use Rattle.ctt_edits.specs.declared.slot_pattern.SlotPattern.{SlotPattern}
use Rattle.ctt_edits.specs.declared.slot_pattern.SlotPattern.TheVariants.{Place as SlotPlace, Move as SlotMove, Swap as SlotSwap}

-- the pattern, whose new slot is any
abbrev pub pattern_of : SlotPattern → Pattern
pattern_of (SlotPlace c r) = AnyPlace c None r
pattern_of (SlotMove c s r) = AnyMove c s None r
pattern_of (SlotSwap c s) = AnySwap c s

-- the slot to which an edit leads; that of a swap is the slot of the other lecture
abbrev pub target : Edit → ℕ
target (Place c s r) = s
target (Move c s s2 r) = s2
target (Swap c s d s2) = s2
target (Reroom c s r) = s
target (Drop c s) = s

-- the edits of a pattern that lead to slot x, in their order
abbrev pub edits_to : Problem → SlotPattern → ℕ → List Edit
edits_to i p x = filter (λ e. target e == x) (edits_of i (pattern_of p))

-- an edit with its price, or the fault for which it is refused
abbrev pub offer_by : Option EditFault → PricedEdit → Offer
offer_by None e = Priced e
offer_by (Some f) e = Refused f

-- what an edit offers on t: itself with its price, or why it is refused
abbrev pub offer : Problem → List Placed → Edit → Offer
offer i t e = offer_by (edit_fault i t e) (with_price i t e)

-- the place of a fault in the order in which faults are looked for
abbrev pub fault_rank : EditFault → ℕ
fault_rank NotPlaced = 0
fault_rank SameSlot = 1
fault_rank SameCourse = 2
fault_rank AlreadyThere = 3
fault_rank CourseFull = 4
fault_rank Unavailable = 5
fault_rank Barred = 6
fault_rank Blocked = 7
fault_rank (Clash c) = 8
fault_rank (RoomTaken c) = 9

-- a price is better than a fault, the lower of two prices, the later of two faults, and anything
-- than nothing
abbrev pub is_better : Offer → Offer → Bool
is_better (Priced x) (Priced y) = is_cheaper x y
is_better (Priced x) (Refused g) = true
is_better (Priced x) Nothing = true
is_better (Refused f) (Priced y) = false
is_better (Refused f) (Refused g) = nat_lt (fault_rank g) (fault_rank f)
is_better (Refused f) Nothing = true
is_better Nothing other = false

-- the first offer than which none is better, or nothing if there is no offer
abbrev pub best : List Offer → Offer
best offers = unwrap_or (find (λ x. not (list_any (λ y. is_better y x) offers)) offers) Nothing

-- what a slot offers: the best that an edit to it offers
abbrev pub slot_offer : Problem → List Placed → SlotPattern → ℕ → Offer
slot_offer i t p x = best (map (offer i t) (edits_to i p x))

-- what each slot offers, in the order of the slots
abbrev pub offers : Problem → List Placed → SlotPattern → List Offer
offers i t p = map (slot_offer i t p) (range_with_len 0 (slot_count i))

-- the numbers that fill in the rest of a pattern, of a room or another course
abbrev pub other_choices : Problem → SlotPattern → List ℕ
other_choices i (SlotPlace c r) = given_or_all (room_count i) r
other_choices i (SlotMove c s r) = given_or_all (room_count i) r
other_choices i (SlotSwap c s) = given_or_all (course_count i) None

-- the edit to slot x with room or other course y
abbrev pub edit_to : SlotPattern → ℕ → ℕ → Edit
edit_to (SlotPlace c r) x y = Place c x y
edit_to (SlotMove c s r) x y = Move c s x y
edit_to (SlotSwap c s) x y = Swap c s y x
