-- Edit patterns: edits in which a part is left open. The edits that a pattern stands for, and the
-- cheapest of them.
use Rattle.std.specs.Prelude.{ℕ, ◌<◌, ◌≡◌, Bool, false, List, [], ◌∷◌, length, map, take, filter, nat_le, slice_index_or, codes, Option, Some, None, is_none}
use Rattle.std.specs.Str.{bytes_eq}
use Rattle.std.specs.Int.Signed.{lt_z}
use Rattle.std.specs.List.{flat_map, fold, range_with_len}
use Rattle.ctt_problem.specs.Lists.{put}
use Rattle.ctt_problem.specs.Problem.{Problem, course_of, course_count, slot_count, room_count}
use Rattle.ctt_problem.specs.Timetable.{course_row}
use Rattle.ctt_problem.specs.declared.placed.Placed.{Placed}
use Rattle.ctt_board.specs.Boards.{delta}
use Rattle.ctt_board.specs.Changes.{room_at}
use Rattle.ctt_edits.specs.Edits.{fault_if, edit_fault, change}
use Rattle.ctt_edits.specs.declared.edit.Edit.{Edit}
use Rattle.ctt_edits.specs.declared.edit.Edit.TheVariants.{Place, Move, Swap, Reroom}
use Rattle.ctt_edits.specs.declared.fault.EditFault.{EditFault}
use Rattle.ctt_edits.specs.declared.fault.EditFault.TheVariants.{NotPlaced, CourseFull}
use Rattle.ctt_edits.specs.declared.pattern.Pattern.{Pattern}
use Rattle.ctt_edits.specs.declared.pattern.Pattern.TheVariants.{Place as AnyPlace, Move as AnyMove, Swap as AnySwap, Reroom as AnyReroom}
use Rattle.ctt_edits.specs.declared.priced_edit.PricedEdit.{PricedEdit}

-- none, or a number below n
abbrev pub FitsIfGiven : ℕ → Option ℕ → Type 0
FitsIfGiven n None = Unit {0}
FitsIfGiven n (Some x) = x < n

-- none, or a room of the instance that is not named *
abbrev pub IsRoomIfGiven : Problem → Option ℕ → Type 0
IsRoomIfGiven i None = Unit {0}
IsRoomIfGiven i (Some r) = (r < room_count i) × (bytes_eq (slice_index_or i.room_names r []) (codes "*") ≡ false)

-- its numbers are those of the instance, and a given room is not named *
abbrev pub PatternFits : Problem → Pattern → Type 0
PatternFits i (AnyPlace c s r) = (c < course_count i) × FitsIfGiven (slot_count i) s × IsRoomIfGiven i r
PatternFits i (AnyMove c s s2 r) = (c < course_count i) × (s < slot_count i) × FitsIfGiven (slot_count i) s2 × IsRoomIfGiven i r
PatternFits i (AnySwap c s) = (c < course_count i) × (s < slot_count i)
PatternFits i (AnyReroom c s r) = (c < course_count i) × (s < slot_count i) × IsRoomIfGiven i r

-- the given number, or all numbers below n, ascending, if none is given
abbrev pub given_or_all : ℕ → Option ℕ → List ℕ
given_or_all n None = range_with_len 0 n
given_or_all n (Some x) = x ∷ []

-- the edits that a pattern stands for, by slot and then by room; those of a swap by the other
-- course and then by its slot
abbrev pub edits_of : Problem → Pattern → List Edit
edits_of i (AnyPlace c s r) = flat_map (λ x. map (λ y. Place c x y) (given_or_all (room_count i) r)) (given_or_all (slot_count i) s)
edits_of i (AnyMove c s s2 r) = flat_map (λ x. map (λ y. Move c s x y) (given_or_all (room_count i) r)) (given_or_all (slot_count i) s2)
edits_of i (AnySwap c s) = flat_map (λ x. map (λ y. Swap c s x y) (given_or_all (slot_count i) None)) (given_or_all (course_count i) None)
edits_of i (AnyReroom c s r) = map (λ y. Reroom c s y) (given_or_all (room_count i) r)

-- why each edit of a pattern is refused, if one reason holds for all: the lecture that it names is
-- not placed, or all lectures of its course are
abbrev pub pattern_fault : Problem → List Placed → Pattern → Option EditFault
pattern_fault i t (AnyPlace c s r) = fault_if (nat_le (course_of i c).lectures (length (course_row c t))) CourseFull
pattern_fault i t (AnyMove c s s2 r) = fault_if (is_none (room_at c s t)) NotPlaced
pattern_fault i t (AnySwap c s) = fault_if (is_none (room_at c s t)) NotPlaced
pattern_fault i t (AnyReroom c s r) = fault_if (is_none (room_at c s t)) NotPlaced

-- an edit with its price: the penalty after it minus the penalty before it
abbrev pub with_price : Problem → List Placed → Edit → PricedEdit
with_price i t e = record { edit = e; price = delta i t (change t e) }

-- the edits that have no fault, with their prices
abbrev pub feasible : Problem → List Placed → List Edit → List PricedEdit
feasible i t es = map (with_price i t) (filter (λ e. is_none (edit_fault i t e)) es)

-- x costs less than y
abbrev pub is_cheaper : PricedEdit → PricedEdit → Bool
is_cheaper x y = lt_z x.price y.price

-- the edits sorted by price: each is inserted before the first dearer one, so edits of equal price
-- stay in order
abbrev pub by_price : List PricedEdit → List PricedEdit
by_price edits = fold (λ list x. put is_cheaper x list) [] edits

-- the n cheapest feasible edits of a pattern, or all if there are fewer
abbrev pub cheapest : Problem → List Placed → ℕ → Pattern → List PricedEdit
cheapest i t n p = take n (by_price (feasible i t (edits_of i p)))
