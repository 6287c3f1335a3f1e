-- The fault of an edit pattern, the cheapest of its edits, and what slots offer to it, depend on
-- the rows that the prices of its edits read.
use Rattle.std.proofs.Common.{◌≡◌, ℕ, true, ◌==◌, List, [], ◌∷◌, Option, Some, None, is_none, length, map, nat_le, take, refl, ◌∙◌, sym, ap, ap₂, inl, inr}
use Rattle.std.specs.List.{list_any, range_with_len, AllByRecursion as Each}
use Rattle.std.proofs.lemmas.Bool.{cases_Bool, eq-eqb, or_left, or_right}
use Rattle.ctt_problem.specs.Lists.{has}
use Rattle.ctt_problem.specs.Problem.{Problem, course_of, slot_count, mates}
use Rattle.ctt_problem.specs.Timetable.{IsTimetable}
use Rattle.ctt_problem.specs.declared.placed.Placed.{Placed}
use Rattle.ctt_rules.proofs.ListLemmas.{Each-filter}
use Rattle.ctt_board.proofs.OrderLemmas.{in_order}
use Rattle.ctt_edits.specs.Calls.{edit_courses, edit_slots, with_mates, is_choice, pattern_reads_course, pattern_reads_slot}
use Rattle.ctt_edits.specs.Candidates.{edit_by}
use Rattle.ctt_edits.specs.Edits.{EditFits, fault_if, edit_fault}
use Rattle.ctt_edits.specs.Looks.{price}
use Rattle.ctt_edits.specs.Offers.{pattern_of, target, edits_to, offer_by, offer, best, slot_offer, offers}
use Rattle.ctt_edits.specs.Patterns.{PatternFits, pattern_fault, edits_of, feasible, by_price, cheapest}
use Rattle.ctt_edits.specs.declared.edit.Edit.{Edit}
use Rattle.ctt_edits.specs.declared.fault.EditFault.TheVariants.{NotPlaced, CourseFull}
use Rattle.ctt_edits.specs.declared.pattern.Pattern.{Pattern}
use Rattle.ctt_edits.specs.declared.pattern.Pattern.TheVariants.{Place as AnyPlace, Move as AnyMove, Swap as AnySwap, Reroom as AnyReroom}
use Rattle.ctt_edits.specs.declared.slot_pattern.SlotPattern.{SlotPattern}
use Rattle.ctt_edits.proofs.CheapestLemmas.{InChoices, FirstOf, each_edit, edit_fits}
use Rattle.ctt_edits.proofs.FrameLemmas.{AgreeAt, room_same, fault_same}
use Rattle.ctt_edits.proofs.PriceFrame.{price_same}
use Rattle.ctt_edits.proofs.ReadLemmas.{AgreeOn}

-- the rows that the prices of all edits of a pattern read are equal
abbrev pub AgreeFor : Problem → Pattern → List Placed → List Placed → Type 0
AgreeFor i p t u = AgreeOn (pattern_reads_course i p) (pattern_reads_slot p) t u

-- those that the price of one edit reads
abbrev pub AgreePriced : Problem → List Placed → List Placed → Edit → Type 0
AgreePriced i t u e = AgreeOn (with_mates i (edit_courses e)) (λ s. has s (edit_slots e)) t u

own : (i : Problem) (c : ℕ) → with_mates i (c ∷ []) c ≡ true
own i c = or_left (has c (c ∷ [])) (list_any (λ d. mates i d c) (c ∷ [])) (or_left (c == c) (has c []) (eq-eqb c c refl))

pub pattern_fault_same : (i : Problem) (p : Pattern) (t u : List Placed) → AgreeFor i p t u → pattern_fault i t p ≡ pattern_fault i u p
pattern_fault_same i (AnyPlace c s r) t u a = ap (λ ls. fault_if (nat_le (course_of i c).lectures (length ls)) CourseFull) (a.courses c (own i c))
pattern_fault_same i (AnyMove c s s2 r) t u a = ap (λ o. fault_if (is_none o) NotPlaced) (room_same c s t u (a.courses c (own i c)))
pattern_fault_same i (AnySwap c s) t u a = ap (λ o. fault_if (is_none o) NotPlaced) (room_same c s t u (a.courses c refl))
pattern_fault_same i (AnyReroom c s r) t u a = ap (λ o. fault_if (is_none o) NotPlaced) (room_same c s t u (a.courses c (own i c)))

-- the number that was chosen is one that is looked at
pub chosen : (n : ℕ) (o : Option ℕ) (x z : ℕ) → InChoices n o x → has z (x ∷ []) ≡ true → is_choice o z ≡ true
chosen n None x z h e = refl
chosen n (Some y) x z h e = ap (λ w. has z (w ∷ [])) (sym h.1) ∙ e

agree_priced : (i : Problem) (p : Pattern) (t u : List Placed) (x y : ℕ) → FirstOf i p x → AgreeFor i p t u → AgreePriced i t u (edit_by p x y)
agree_priced i (AnyPlace c s r) t u x y f a = record { courses = a.courses; slots = λ z e. a.slots z (chosen (slot_count i) s x z f e) }
agree_priced i (AnyMove c s s2 r) t u x y f a = record { courses = a.courses; slots = λ z e. a.slots z (chosen (slot_count i) s2 x z f e) }
agree_priced i (AnySwap c s) t u x y f a = record { courses = λ d e. a.courses d refl; slots = λ z e. a.slots z refl }
agree_priced i (AnyReroom c s r) t u x y f a = record { courses = a.courses; slots = λ z e. a.slots z (ap (λ w. has z (w ∷ [])) (sym f) ∙ e) }

-- an edit has the same fault on both, and the same price
pub record SameTold (i : Problem) (t u : List Placed) (e : Edit) : Type 0 where
  pub fault : edit_fault i t e ≡ edit_fault i u e
  pub price : price i t e ≡ price i u e

module _ (i : Problem) (t u : List Placed) (h : IsTimetable i t) (k : IsTimetable i u) where
  same_told : (e : Edit) → EditFits i e → AgreePriced i t u e → SameTold i t u e
  same_told e f a =
      let at : AgreeAt e t u = record { courses = λ c y. a.courses c (or_left (has c (edit_courses e)) (list_any (λ d. mates i d c) (edit_courses e)) y); slots = a.slots } in
      record {
        fault = fault_same i e t u (in_order t h.ascending) (in_order u k.ascending) at;
        price = price_same i e t u h k f at (λ d y. a.courses d (or_right (has d (edit_courses e)) (list_any (λ c. mates i c d) (edit_courses e)) y));
      }

  feasible_same : (es : List Edit) → Each (SameTold i t u) es → feasible i t es ≡ feasible i u es
  feasible_same [] same = refl
  feasible_same (e ∷ es) same = elim (cases_Bool (is_none (edit_fault i u e))) [
    | inl b ↦ rw (same.0.fault, b) (ap₂ (λ p xs. record { edit = e; price = p } ∷ xs) same.0.price (feasible_same es same.1))
    | inr b ↦ rw (same.0.fault, b) (feasible_same es same.1)
  ]

  all_told : (p : Pattern) → PatternFits i p → AgreeFor i p t u → Each (SameTold i t u) (edits_of i p)
  all_told p f a = each_edit i p (SameTold i t u) f (λ x y first second. same_told (edit_by p x y) (edit_fits i p x y f first second) (agree_priced i p t u x y first a))

  pub cheapest_same_of : (p : Pattern) (n : ℕ) → PatternFits i p → AgreeFor i p t u → cheapest i t n p ≡ cheapest i u n p
  cheapest_same_of p n f a = ap (λ xs. take n (by_price xs)) (feasible_same (edits_of i p) (all_told p f a))

  -- so an edit offers the same, and a slot does
  told_same : (es : List Edit) → Each (SameTold i t u) es → map (offer i t) es ≡ map (offer i u) es
  told_same [] same = refl
  told_same (e ∷ es) same = ap₂ (λ o os. o ∷ os) (ap₂ (λ f cost. offer_by f (record { edit = e; price = cost })) same.0.fault same.0.price) (told_same es same.1)

  offers_from_same : (p : SlotPattern) → Each (SameTold i t u) (edits_of i (pattern_of p)) → (xs : List ℕ) → map (slot_offer i t p) xs ≡ map (slot_offer i u p) xs
  offers_from_same p same [] = refl
  offers_from_same p same (x ∷ xs) = ap₂ (λ o os. o ∷ os) (ap best (told_same (edits_to i p x) (Each-filter (SameTold i t u) (λ e. target e == x) (edits_of i (pattern_of p)) same))) (offers_from_same p same xs)

  pub offers_same_of : (p : SlotPattern) → PatternFits i (pattern_of p) → AgreeFor i (pattern_of p) t u → offers i t p ≡ offers i u p
  offers_same_of p f a = offers_from_same p (all_told (pattern_of p) f a) (range_with_len 0 (slot_count i))

pub cheapest_same : (i : Problem) (p : Pattern) (n : ℕ) (t u : List Placed) → IsTimetable i t → IsTimetable i u → PatternFits i p → AgreeFor i p t u → cheapest i t n p ≡ cheapest i u n p
cheapest_same i p n t u h k f a = cheapest_same_of i t u h k p n f a

pub offers_same : (i : Problem) (p : SlotPattern) (t u : List Placed) → IsTimetable i t → IsTimetable i u → PatternFits i (pattern_of p) → AgreeFor i (pattern_of p) t u → offers i t p ≡ offers i u p
offers_same i p t u h k f a = offers_same_of i t u h k p f a
