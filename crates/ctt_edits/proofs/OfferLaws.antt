-- What slots offer: prices that are accepted, faults that stand, and the least price is that of the
-- cheapest edit.
use Rattle.std.proofs.Common.{◌≡◌, ℕ, ℤ, zero, suc, ◌+◌, ◌<◌, ◌≤◌, Bool, true, false, not, cond, ◌==◌, List, [], ◌∷◌, length, map, take, Option, Some, None, is_none, Ok, refl, ◌∙◌, sym, ap, subst, arith, inl, inr}
use Rattle.std.specs.Int.Signed.{lt_z}
use Rattle.std.specs.List.{filter, find, fold, list_any, range_with_len, Contains, AllByRecursion as Each}
use Rattle.std.specs.Option.{unwrap_or}
use Rattle.std.proofs.lemmas.Bool.{cases_Bool, cases_eq, eq-eqb}
use Rattle.std.proofs.lemmas.Bool.Decides.{nat_tests}
use Rattle.std.proofs.lemmas.Int.{ints}
use Rattle.std.proofs.lemmas.List.{length-map}
use Rattle.std.proofs.lemmas.List.Elements.{All-contains, All-from_recursion}
use Rattle.std.proofs.lemmas.List.FromFn.{length-range_with_len}
use Rattle.ctt_problem.specs.Lists.{put}
use Rattle.ctt_problem.specs.Problem.{Problem, course_count, slot_count, room_count}
use Rattle.ctt_problem.specs.declared.placed.Placed.{Placed}
use Rattle.ctt_problem.proofs.LectureLaws.{Each-put}
use Rattle.ctt_problem.proofs.ListLaws.{Each-mapped}
use Rattle.ctt_problem.proofs.TimetableLemmas.{Each-map}
use Rattle.ctt_rules.proofs.ListLemmas.{Each-every, Each-filter}
use Rattle.ctt_edits.specs.Edits.{edit_fault}
use Rattle.ctt_edits.specs.EditLaws.{SlotPriceStands, SlotPriceIsLeast, SlotFaultStands, SlotFaultIsLast, SlotsOffer, HasLeastOffer, CheapestIsLeastOffer}
use Rattle.ctt_edits.specs.Looks.{price, priced, priced_by}
use Rattle.ctt_edits.specs.Offers.{pattern_of, target, edits_to, fault_rank, is_better, offer_by, offer, best, slot_offer, offers, other_choices, edit_to}
use Rattle.ctt_edits.specs.Patterns.{PatternFits, given_or_all, edits_of, with_price, feasible, is_cheaper, by_price}
use Rattle.ctt_edits.specs.declared.edit.Edit.{Edit}
use Rattle.ctt_edits.specs.declared.fault.EditFault.{EditFault}
use Rattle.ctt_edits.specs.declared.offer.Offer.{Offer}
use Rattle.ctt_edits.specs.declared.offer.Offer.TheVariants.{Priced, Refused, Nothing}
use Rattle.ctt_edits.specs.declared.priced_edit.PricedEdit.{PricedEdit}
use Rattle.ctt_edits.specs.declared.slot_pattern.SlotPattern.{SlotPattern}
use Rattle.ctt_edits.specs.declared.slot_pattern.SlotPattern.TheVariants.{Place as SlotPlace, Move as SlotMove, Swap as SlotSwap}
use Rattle.ctt_edits.proofs.CheapestLemmas.{each_edit}
use Rattle.ctt_edits.proofs.OfferLemmas.{edits_to_are}
use Rattle.ctt_edits.proofs.OfferOrder.{not_itself, better, best_from, unbeaten}
use Rattle.ctt_edits.proofs.PriceOrder.{Ascends, inserted, prices_ascend}
use Rattle.ctt_edits.proofs.ReplyLemmas.{none_is}

-- an element of a list is the first or one of the others
first_of : {X : Type 0} (x : X) (xs : List X) → Contains (x ∷ xs) x
first_of x xs = (0, omega arith, refl)

later_of : {X : Type 0} (x y : X) (xs : List X) → Contains xs y → Contains (x ∷ xs) y
later_of x y xs h = (suc h.0, omega (arith, h.1), h.2)

-- the one that is found
record Found {X : Type 0} (q : X → Bool) (xs : List X) (x : X) : Type 0 where
  passes : q x ≡ true
  within : Contains xs x

found : {X : Type 0} (q : X → Bool) (xs : List X) (x : X) → find q xs ≡ Some x → Found q xs x
found q [] x h = cc
found {X} q (y ∷ ys) x h = elim (cases_Bool (q y)) [
  | inl b ↦ (
      let h' : ◌≡◌ {A = Option X} (Some y) (Some x) = rw b at h in
      let same : y ≡ x = cc in
      subst (Found q (y ∷ ys)) same (record { passes = b; within = first_of y ys }))
  | inr b ↦ (
      let h' : find q ys ≡ Some x = rw b at h in
      let rest : Found q ys x = found q ys x h' in
      record { passes = rest.passes; within = later_of y x ys rest.within })
]

-- what is best, if it is something
priced_is : (o : Option Offer) (e : PricedEdit) → unwrap_or o Nothing ≡ Priced e → o ≡ Some (Priced e)
priced_is None e h = cc
priced_is (Some x) e h = ap Some h

refused_is : (o : Option Offer) (f : EditFault) → unwrap_or o Nothing ≡ Refused f → o ≡ Some (Refused f)
refused_is None f h = cc
refused_is (Some x) f h = ap Some h

-- no offer is better
none_better : (o : Offer) (xs : List Offer) → not (list_any (λ y. is_better y o) xs) ≡ true → Each (λ y. is_better y o ≡ false) xs
none_better o [] h = tt
none_better o (x ∷ xs) h = elim (cases_Bool (is_better x o)) [
  | inl b ↦ (let h' : false ≡ true = rw b at h in cc)
  | inr b ↦ (let h' : not (list_any (λ y. is_better y o) xs) ≡ true = rw b at h in (b, none_better o xs h'))
]

-- an element of a mapped list, and what holds of each
of_mapped : {X Y : Type 0} (f : X → Y) (xs : List X) (y : Y) → Contains (map f xs) y → (x : X) × Contains xs x × (f x ≡ y)
of_mapped f [] y (k, lt, is) = absurd (omega (arith, lt))
of_mapped f (x ∷ xs) y (zero, lt, is) = (x, first_of x xs, is)
of_mapped f (x ∷ xs) y (suc k, lt, is) = (let rest = of_mapped f xs y (k, omega (arith, lt), is) in (rest.0, later_of x rest.0 xs rest.1, rest.2))

each_mapped : {X Y : Type 0} (P : Y → Type 0) (f : X → Y) (xs : List X) → Each P (map f xs) → Each (λ x. P (f x)) xs
each_mapped P f [] h = tt
each_mapped P f (x ∷ xs) h = (h.0, each_mapped P f xs h.1)

-- what an edit offers, by its fault
module _ (i : Problem) (t : List Placed) where
  record Costs (e : Edit) (p : PricedEdit) : Type 0 where
    fault : edit_fault i t e ≡ None
    is : with_price i t e ≡ p

  offers_price : (o : Option EditFault) (x p : PricedEdit) → offer_by o x ≡ Priced p → (o ≡ None) × (x ≡ p)
  offers_price None x p h = (refl, cc)
  offers_price (Some f) x p h = cc

  offers_fault : (o : Option EditFault) (x : PricedEdit) (f : EditFault) → offer_by o x ≡ Refused f → o ≡ Some f
  offers_fault None x f h = cc
  offers_fault (Some g) x f h = cc

  costs : (e : Edit) (p : PricedEdit) → offer i t e ≡ Priced p → Costs e p
  costs e p h = (let both = offers_price (edit_fault i t e) (with_price i t e) p h in record { fault = both.0; is = both.1 })

  -- the price of an edit without a fault
  accepted : (o : Option EditFault) (cost price : ℤ) → priced_by o cost ≡ Ok price → (o ≡ None) × (cost ≡ price)
  accepted None cost price h = (refl, cc)
  accepted (Some f) cost price h = cc

  -- the best of a slot
  record IsBest (es : List Edit) (o : Offer) : Type 0 where
    edit : Edit
    within : Contains es edit
    is : offer i t edit ≡ o
    least : Each (λ e. is_better (offer i t e) o ≡ false) es

  is_best : (es : List Edit) (o : Offer) → find (unbeaten (map (offer i t) es)) (map (offer i t) es) ≡ Some o → IsBest es o
  is_best es o h =
      let it : Found (unbeaten (map (offer i t) es)) (map (offer i t) es) o = found (unbeaten (map (offer i t) es)) (map (offer i t) es) o h in
      let one = of_mapped (offer i t) es o it.within in
      record {
        edit = one.0;
        within = one.1;
        is = one.2;
        least = each_mapped (λ y. is_better y o ≡ false) (offer i t) es (none_better o (map (offer i t) es) it.passes);
      }

  best_price : (es : List Edit) (p : PricedEdit) → best (map (offer i t) es) ≡ Priced p → IsBest es (Priced p)
  best_price es p h = is_best es (Priced p) (priced_is (find (unbeaten (map (offer i t) es)) (map (offer i t) es)) p h)

  best_fault : (es : List Edit) (f : EditFault) → best (map (offer i t) es) ≡ Refused f → IsBest es (Refused f)
  best_fault es f h = is_best es (Refused f) (refused_is (find (unbeaten (map (offer i t) es)) (map (offer i t) es)) f h)

  price_stands : (es : List Edit) (p : PricedEdit) → IsBest es (Priced p) → Contains es p.edit × (priced i t p.edit ≡ Ok p.price)
  price_stands es p b =
      let c : Costs b.edit p = costs b.edit p b.is in (
        subst (Contains es) (ap (λ (x : PricedEdit). x.edit) c.is) b.within,
        subst (λ (x : PricedEdit). priced i t x.edit ≡ Ok x.price) c.is (ap (λ o. priced_by o (price i t b.edit)) c.fault),
      )

  not_cheaper : (e : Edit) (p : PricedEdit) → is_better (offer i t e) (Priced p) ≡ false → (cost : ℤ) → priced i t e ≡ Ok cost → lt_z cost p.price ≡ false
  not_cheaper e p h cost k =
      let both = accepted (edit_fault i t e) (price i t e) cost k in
      subst (λ z. lt_z z p.price ≡ false) both.1 (subst (λ o. is_better (offer_by o (with_price i t e)) (Priced p) ≡ false) both.0 h)

  comes_no_later : (o : Option EditFault) (x : PricedEdit) (f : EditFault) → is_better (offer_by o x) (Refused f) ≡ false → (g : EditFault) × (o ≡ Some g) × (fault_rank g ≤ fault_rank f)
  comes_no_later None x f h = cc
  comes_no_later (Some g) x f h = (g, refl, grind (arith, nat_tests, h))

pub slot_price_stands : SlotPriceStands
slot_price_stands i t p s e h = price_stands i t (edits_to i p s) e (best_price i t (edits_to i p s) e h)

pub slot_price_is_least : SlotPriceIsLeast
slot_price_is_least i t p s e h =
    Each-map (λ other. is_better (offer i t other) (Priced e) ≡ false) (λ other. (price : ℤ) → priced i t other ≡ Ok price → lt_z price e.price ≡ false)
    (λ other k. not_cheaper i t other e k) (edits_to i p s) (best_price i t (edits_to i p s) e h).least

pub slot_fault_stands : SlotFaultStands
slot_fault_stands i t p s f h =
    let b : IsBest i t (edits_to i p s) (Refused f) = best_fault i t (edits_to i p s) f h in
    (b.edit, b.within, offers_fault i t (edit_fault i t b.edit) (with_price i t b.edit) f b.is)

pub slot_fault_is_last : SlotFaultIsLast
slot_fault_is_last i t p s f h =
    Each-map (λ e. is_better (offer i t e) (Refused f) ≡ false) (λ e. (g : EditFault) × (edit_fault i t e ≡ Some g) × (fault_rank g ≤ fault_rank f))
    (λ e k. comes_no_later i t (edit_fault i t e) (with_price i t e) f k) (edits_to i p s) (best_fault i t (edits_to i p s) f h).least

-- of some edits one is the best
some_first : (b : Offer) (xs : List Offer) → (b ≡ Nothing → ⊥) → Each (λ x. x ≡ Nothing → ⊥) xs → fold better b xs ≡ Nothing → ⊥
some_first b [] h k e = h e
some_first b (x ∷ xs) h k e = some_first (better b x) xs (either (is_better x b)) k.1 e
  where
    either : (c : Bool) → cond c x b ≡ Nothing → ⊥
    either true = k.0
    either false = h

something : (o : Option EditFault) (x : PricedEdit) → offer_by o x ≡ Nothing → ⊥
something None x h = cc
something (Some f) x h = cc

some_of : (i : Problem) (t : List Placed) (es : List Edit) → 0 < length es → best (map (offer i t) es) ≡ Nothing → ⊥
some_of i t [] lt h = omega (arith, lt)
some_of i t (e ∷ es) lt h =
    some_first (offer i t e) (map (offer i t) es) (something (edit_fault i t e) (with_price i t e))
    (Each-mapped (λ x. x ≡ Nothing → ⊥) (offer i t) es (Each-every (λ e. offer i t e ≡ Nothing → ⊥) (λ e. something (edit_fault i t e) (with_price i t e)) es))
    (best_from (offer i t e) (map (offer i t) es) ∙ h)

some_choices : (n : ℕ) (o : Option ℕ) → 0 < n → 0 < length (given_or_all n o)
some_choices n None lt = rw (length-range_with_len 0 n) lt
some_choices n (Some x) lt = omega arith

some_others : (i : Problem) (p : SlotPattern) → PatternFits i (pattern_of p) → 0 < room_count i → 0 < length (other_choices i p)
some_others i (SlotPlace c r) f rooms = some_choices (room_count i) r rooms
some_others i (SlotMove c s r) f rooms = some_choices (room_count i) r rooms
some_others i (SlotSwap c s) f rooms = some_choices (course_count i) None (omega (arith, f.0))

pub slots_offer : SlotsOffer
slots_offer i t p s f rooms lt h =
    some_of i t (map (edit_to p s) (other_choices i p)) (rw (length-map (other_choices i p) (edit_to p s)) (some_others i p f rooms))
    (ap (λ es. best (map (offer i t) es)) (sym (edits_to_are i p s lt)) ∙ h)

-- elements of a list
at : {X : Type 0} (P : X → Type 0) (xs : List X) (x : X) → Each P xs → Contains xs x → P x
at P xs x h k = All-contains P xs x (All-from_recursion P xs h) k

each_in : {X : Type 0} (xs : List X) → Each (Contains xs) xs
each_in [] = tt
each_in (x ∷ xs) = (first_of x xs, Each-map (Contains xs) (Contains (x ∷ xs)) (λ y. later_of x y xs) xs (each_in xs))

in_filter : {X : Type 0} (q : X → Bool) (xs : List X) (x : X) → Contains xs x → q x ≡ true → Contains (filter q xs) x
in_filter q [] x (k, lt, is) b = absurd (omega (arith, lt))
in_filter q (y ∷ ys) x (zero, lt, is) b = rw (ap q is ∙ b) (0, omega arith, is)
in_filter q (y ∷ ys) x (suc k, lt, is) b =
    let rest : Contains (filter q ys) x = in_filter q ys x (k, omega (arith, lt), is) b in
    elim (cases_Bool (q y)) [ inl c ↦ rw c (later_of y x (filter q ys) rest) | inr c ↦ rw c rest ]

in_mapped : {X Y : Type 0} (f : X → Y) (xs : List X) (x : X) → Contains xs x → Contains (map f xs) (f x)
in_mapped f [] x (k, lt, is) = absurd (omega (arith, lt))
in_mapped f (y ∷ ys) x (zero, lt, is) = (0, omega arith, ap f is)
in_mapped f (y ∷ ys) x (suc k, lt, is) = later_of (f y) (f x) (map f ys) (in_mapped f ys x (k, omega (arith, lt), is))

in_range : (a m x : ℕ) → a ≤ x → x < a + m → Contains (range_with_len a m) x
in_range a zero x le lt = absurd (omega (arith, le, lt))
in_range a (suc m) x le lt = elim (cases_eq a x) [
  | inl same ↦ (0, omega arith, same)
  | inr other ↦ later_of a x (range_with_len (a + 1) m) (in_range (a + 1) m x (omega (arith, le, other)) (omega (arith, lt)))
]

-- what holds of a list in order of price holds of the list, and the other way round
put_back : (P : PricedEdit → Type 0) (x : PricedEdit) (xs : List PricedEdit) → Each P (put is_cheaper x xs) → P x × Each P xs
put_back P x [] h = (h.0, tt)
put_back P x (y ∷ ys) h = elim (cases_Bool (is_cheaper x y)) [
  | inl b ↦ (let h' : Each P (x ∷ y ∷ ys) = rw b at h in (h'.0, h'.1))
  | inr b ↦ (
      let h' : Each P (y ∷ put is_cheaper x ys) = rw b at h in
      let rest = put_back P x ys h'.1 in
      (rest.0, (h'.0, rest.1)))
]

inserted_back : (P : PricedEdit → Type 0) (xs ys : List PricedEdit) → Each P (inserted xs ys) → Each P xs × Each P ys
inserted_back P xs [] h = (h, tt)
inserted_back P xs (y ∷ ys) h =
    let rest = inserted_back P (put is_cheaper y xs) ys h in
    let front = put_back P y xs rest.0 in
    (front.1, (front.0, rest.1))

inserted_each : (P : PricedEdit → Type 0) (xs ys : List PricedEdit) → Each P xs → Each P ys → Each P (inserted xs ys)
inserted_each P xs [] h k = h
inserted_each P xs (y ∷ ys) h k = inserted_each P (put is_cheaper y xs) ys (Each-put P is_cheaper y xs k.0 h) k.1

-- neither price is lower
same_price : (a b : ℤ) → lt_z a b ≡ false → lt_z b a ≡ false → a ≡ b
same_price a b h k = grind (arith, ints)

-- each edit of a pattern leads to a slot
leads_to_slot : (i : Problem) (p : SlotPattern) → PatternFits i (pattern_of p) → Each (λ e. target e < slot_count i) (edits_of i (pattern_of p))
leads_to_slot i (SlotPlace c r) f = each_edit i (pattern_of (SlotPlace c r)) (λ e. target e < slot_count i) f (λ x y first second. first)
leads_to_slot i (SlotMove c s r) f = each_edit i (pattern_of (SlotMove c s r)) (λ e. target e < slot_count i) f (λ x y first second. first)
leads_to_slot i (SlotSwap c s) f = each_edit i (pattern_of (SlotSwap c s)) (λ e. target e < slot_count i) f (λ x y first second. second)

module _ (i : Problem) (t : List Placed) where
  -- what holds of the edits without a fault
  feasible_each : (P : PricedEdit → Type 0) (es : List Edit) → Each (λ e. edit_fault i t e ≡ None → P (with_price i t e)) es → Each P (feasible i t es)
  feasible_each P [] h = tt
  feasible_each P (e ∷ es) h = elim (cases_Bool (is_none (edit_fault i t e))) [
    | inl b ↦ rw b (h.0 (none_is (edit_fault i t e) b), feasible_each P es h.1)
    | inr b ↦ rw b (feasible_each P es h.1)
  ]

  feasible_back : (P : PricedEdit → Type 0) (es : List Edit) → Each P (feasible i t es) → Each (λ e. edit_fault i t e ≡ None → P (with_price i t e)) es
  feasible_back P [] h = tt
  feasible_back P (e ∷ es) h = elim (cases_Bool (is_none (edit_fault i t e))) [
    | inl b ↦ (let h' : Each P (with_price i t e ∷ feasible i t es) = rw b at h in ((λ none. h'.0), feasible_back P es h'.1))
    | inr b ↦ (
        let h' : Each P (feasible i t es) = rw b at h in
        ((λ none. let z : true ≡ false = sym (ap is_none none) ∙ b in cc), feasible_back P es h'))
  ]

  module _ (p : SlotPattern) (f : PatternFits i (pattern_of p)) where
    abbrev all : List Edit
    all = edits_of i (pattern_of p)

    abbrev ordered : List PricedEdit
    ordered = by_price (feasible i t all)

    -- what holds of each price in order holds of each edit to a slot without a fault
    of_ordered : (P : PricedEdit → Type 0) → Each P ordered → (s : ℕ) (e : PricedEdit) → slot_offer i t p s ≡ Priced e → P e
    of_ordered P h s e is =
        let b : IsBest i t (edits_to i p s) (Priced e) = best_price i t (edits_to i p s) e is in
        let c : Costs i t b.edit e = costs i t b.edit e b.is in
        let every : Each (λ e. edit_fault i t e ≡ None → P (with_price i t e)) all = feasible_back P all (inserted_back P [] (feasible i t all) h).1 in
        let own : Each (λ e. edit_fault i t e ≡ None → P (with_price i t e)) (edits_to i p s) = Each-filter (λ e. edit_fault i t e ≡ None → P (with_price i t e)) (λ e. target e == s) all every in
        subst P c.is (at (λ e. edit_fault i t e ≡ None → P (with_price i t e)) (edits_to i p s) b.edit own b.within c.fault)

    -- each price in order is that of an edit without a fault
    record IsOne (x : PricedEdit) : Type 0 where
      edit : Edit
      within : Contains all edit
      fault : edit_fault i t edit ≡ None
      is : with_price i t edit ≡ x

    ordered_are : Each IsOne ordered
    ordered_are = inserted_each IsOne [] (feasible i t all) tt (feasible_each IsOne all (Each-map (Contains all) (λ e. edit_fault i t e ≡ None → IsOne (with_price i t e)) (λ e k none. record { edit = e; within = k; fault = none; is = refl }) all (each_in all)))

    -- the slot of the cheapest edit offers its price
    module _ (e : PricedEdit) (one : IsOne e) (lowest : (s : ℕ) (x : PricedEdit) → slot_offer i t p s ≡ Priced x → is_cheaper x e ≡ false) where
      abbrev slot : ℕ
      slot = target one.edit

      there : Contains (edits_to i p slot) one.edit
      there = in_filter (λ e. target e == slot) all one.edit one.within (eq-eqb slot slot refl)

      told : offer i t one.edit ≡ Priced e
      told = ap (λ o. offer_by o (with_price i t one.edit)) one.fault ∙ ap Priced one.is

      by_offer : (o : Offer) → slot_offer i t p slot ≡ o → (x : PricedEdit) × (slot_offer i t p slot ≡ Priced x) × (x.price ≡ e.price)
      by_offer Nothing is = absurd (some_of i t (edits_to i p slot) (omega (arith, there.1)) is)
      by_offer (Refused g) is = (
          let b : IsBest i t (edits_to i p slot) (Refused g) = best_fault i t (edits_to i p slot) g is in
          let z : is_better (offer i t one.edit) (Refused g) ≡ false = at (λ e. is_better (offer i t e) (Refused g) ≡ false) (edits_to i p slot) one.edit b.least there in
          let y : true ≡ false = subst (λ o. is_better o (Refused g) ≡ false) told z in
          cc)
      by_offer (Priced x) is = (
          let b : IsBest i t (edits_to i p slot) (Priced x) = best_price i t (edits_to i p slot) x is in
          let z : is_better (offer i t one.edit) (Priced x) ≡ false = at (λ e. is_better (offer i t e) (Priced x) ≡ false) (edits_to i p slot) one.edit b.least there in
          let y : lt_z e.price x.price ≡ false = subst (λ o. is_better o (Priced x) ≡ false) told z in
          (x, is, same_price x.price e.price (lowest slot x is) y))

      offered : (x : PricedEdit) × Contains (offers i t p) (Priced x) × (x.price ≡ e.price)
      offered =
          let o = by_offer (slot_offer i t p slot) refl in
          let within : slot < slot_count i = at (λ e. target e < slot_count i) all one.edit (leads_to_slot i p f) one.within in
          (o.0, subst (Contains (offers i t p)) o.1 (in_mapped (slot_offer i t p) (range_with_len 0 (slot_count i)) slot (in_range 0 (slot_count i) slot (omega arith) (omega (arith, within)))), o.2)

    no_better : (e : PricedEdit) (o : Offer) → ((x : PricedEdit) → o ≡ Priced x → is_cheaper x e ≡ false) → is_better o (Priced e) ≡ false
    no_better e Nothing h = refl
    no_better e (Refused g) h = refl
    no_better e (Priced x) h = h x refl

    least_of : (list : List PricedEdit) → list ≡ ordered → Ascends list → Each IsOne list → HasLeastOffer (take 1 list) (offers i t p)
    least_of [] is asc ones =
        let slots : List ℕ = range_with_len 0 (slot_count i) in
        Each-mapped (λ o. (e : PricedEdit) → o ≡ Priced e → ⊥) (slot_offer i t p) slots
        (Each-every (λ s. (e : PricedEdit) → slot_offer i t p s ≡ Priced e → ⊥) (λ s e h. of_ordered (λ x. ⊥) (subst (Each (λ x. ⊥)) is tt) s e h) slots)
    least_of (e ∷ es) is asc ones =
        let slots : List ℕ = range_with_len 0 (slot_count i) in
        let least : Each (λ x. is_cheaper x e ≡ false) (e ∷ es) = (not_itself (Priced e), asc.0) in
        let lowest : (s : ℕ) (x : PricedEdit) → slot_offer i t p s ≡ Priced x → is_cheaper x e ≡ false = of_ordered (λ x. is_cheaper x e ≡ false) (subst (Each (λ x. is_cheaper x e ≡ false)) is least) in (
          offered e ones.0 lowest,
          Each-mapped (λ o. is_better o (Priced e) ≡ false) (slot_offer i t p) slots
              (Each-every (λ s. is_better (slot_offer i t p s) (Priced e) ≡ false) (λ s. no_better e (slot_offer i t p s) (lowest s)) slots),
        )

pub cheapest_is_least_offer : CheapestIsLeastOffer
cheapest_is_least_offer i t p f = least_of i t p f (ordered i t p f) refl (prices_ascend (feasible i t (edits_of i (pattern_of p)))).0 (ordered_are i t p f)
