-- The tests of two edits, two priced edits and two offers hold of equal ones alone.
use Rattle.std.proofs.Common.{rules, ◌≡◌, true, refl, ap, arith}
use Rattle.std.proofs.lemmas.Bool.Decides.{nat_tests}
use Rattle.ctt_edits.specs.contracts.edit.EditPartialEq.TheImpl.{eq-value as edit_eq}
use Rattle.ctt_edits.specs.contracts.fault.EditFaultPartialEq.TheImpl.{eq-value as fault_eq}
use Rattle.ctt_edits.specs.contracts.priced_edit.PricedEditPartialEq.TheImpl.{eq-value as priced_eq}
use Rattle.ctt_edits.specs.contracts.offer.OfferPartialEq.TheImpl.{eq-value as offer_eq}
use Rattle.ctt_edits.specs.declared.edit.Edit.{Edit}
use Rattle.ctt_edits.specs.declared.edit.Edit.TheVariants.{Place, Move, Swap, Reroom, Drop}
use Rattle.ctt_edits.specs.declared.fault.EditFault.{EditFault}
use Rattle.ctt_edits.specs.declared.fault.EditFault.TheVariants.{NotPlaced, SameSlot, SameCourse, AlreadyThere, CourseFull, Unavailable, Barred, Blocked, Clash, RoomTaken}
use Rattle.ctt_edits.specs.declared.offer.Offer.{Offer}
use Rattle.ctt_edits.specs.declared.offer.Offer.TheVariants.{Priced, Refused, Nothing}
use Rattle.ctt_edits.specs.declared.priced_edit.PricedEdit.{PricedEdit}

same_edit : (a b : Edit) → edit_eq.it a b ≡ true → a ≡ b
same_edit (Place c s r) b h = grind (arith, nat_tests)
same_edit (Move c s s2 r) b h = grind (arith, nat_tests)
same_edit (Swap c s d s2) b h = grind (arith, nat_tests)
same_edit (Reroom c s r) b h = grind (arith, nat_tests)
same_edit (Drop c s) b h = grind (arith, nat_tests)

edit_itself : (a : Edit) → edit_eq.it a a ≡ true
edit_itself (Place c s r) = grind (arith, nat_tests)
edit_itself (Move c s s2 r) = grind (arith, nat_tests)
edit_itself (Swap c s d s2) = grind (arith, nat_tests)
edit_itself (Reroom c s r) = grind (arith, nat_tests)
edit_itself (Drop c s) = grind (arith, nat_tests)

same_fault : (a b : EditFault) → fault_eq.it a b ≡ true → a ≡ b
same_fault NotPlaced b h = grind (arith, nat_tests)
same_fault SameSlot b h = grind (arith, nat_tests)
same_fault SameCourse b h = grind (arith, nat_tests)
same_fault AlreadyThere b h = grind (arith, nat_tests)
same_fault CourseFull b h = grind (arith, nat_tests)
same_fault Unavailable b h = grind (arith, nat_tests)
same_fault Barred b h = grind (arith, nat_tests)
same_fault Blocked b h = grind (arith, nat_tests)
same_fault (Clash c) b h = grind (arith, nat_tests)
same_fault (RoomTaken c) b h = grind (arith, nat_tests)

fault_itself : (a : EditFault) → fault_eq.it a a ≡ true
fault_itself NotPlaced = refl
fault_itself SameSlot = refl
fault_itself SameCourse = refl
fault_itself AlreadyThere = refl
fault_itself CourseFull = refl
fault_itself Unavailable = refl
fault_itself Barred = refl
fault_itself Blocked = refl
fault_itself (Clash c) = grind (arith, nat_tests)
fault_itself (RoomTaken c) = grind (arith, nat_tests)

pub same_priced : (a b : PricedEdit) → priced_eq.it a b ≡ true → a ≡ b
same_priced a b h = search rules

pub priced_itself : (a : PricedEdit) → priced_eq.it a a ≡ true
priced_itself a = search rules

pub same_offer : (a b : Offer) → offer_eq.it a b ≡ true → a ≡ b
same_offer (Priced x) (Priced y) h = ap Priced (same_priced x y h)
same_offer (Priced x) (Refused g) h = cc
same_offer (Priced x) Nothing h = cc
same_offer (Refused f) (Priced y) h = cc
same_offer (Refused f) (Refused g) h = ap Refused (same_fault f g h)
same_offer (Refused f) Nothing h = cc
same_offer Nothing (Priced y) h = cc
same_offer Nothing (Refused g) h = cc
same_offer Nothing Nothing h = refl

pub offer_itself : (a : Offer) → offer_eq.it a a ≡ true
offer_itself (Priced x) = priced_itself x
offer_itself (Refused f) = fault_itself f
offer_itself Nothing = refl
