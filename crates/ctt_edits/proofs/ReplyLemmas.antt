-- The reply to a call on a lawful timetable fits and is short.
use Rattle.std.proofs.Common.{◌≡◌, ℕ, zero, suc, pos, ◌-ℤ◌, ◌<◌, ◌≤◌, Bool, true, false, not, List, [], ◌∷◌, length, map, take, Option, Some, None, is_none, refl, sym, subst, arith, inl, inr}
use Rattle.std.proofs.lemmas.List.{append-nil, map-append, length-map, length-append, length-take}
use Rattle.std.proofs.lemmas.List.FromFn.{length-range_with_len}
use Rattle.std.proofs.lemmas.Int.{ints}
use Rattle.std.specs.Prelude.{unsigned_abs, IfSome, filter, ◌==◌}
use Rattle.std.specs.List.{list_any, find, range_with_len, AllByRecursion as Each}
use Rattle.std.specs.Option.{option_map, unwrap_or}
use Rattle.std.proofs.lemmas.Bool.{cases_Bool}
use Rattle.ctt_problem.specs.Problem.{Problem, IsProblem, course_count, slot_count, room_count, clash}
use Rattle.ctt_problem.specs.Timetable.{Fits, slot_row, without, before}
use Rattle.ctt_problem.specs.declared.placed.Placed.{Placed}
use Rattle.ctt_problem.specs.Lists.{below, put}
use Rattle.ctt_problem.proofs.LectureLaws.{Each-put}
use Rattle.ctt_problem.proofs.ListLaws.{Each-mapped}
use Rattle.ctt_problem.proofs.TimetableLemmas.{Each-append, Each-map}
use Rattle.ctt_rules.specs.Hard.{Lawful}
use Rattle.ctt_rules.specs.Penalty.{penalty, course_cost, total}
use Rattle.ctt_rules.specs.declared.cost.Cost.{Cost}
use Rattle.ctt_rules.proofs.ListLemmas.{Each-every, Each-filter, Each-take}
use Rattle.ctt_rules.proofs.TimetableLemmas.{few_lectures, lectures_small}
use Rattle.ctt_board.specs.Changes.{room_at, course_named, apply_at}
use Rattle.ctt_board.proofs.CostLemmas.{course_cost_small, penalty_small}
use Rattle.ctt_edits.specs.declared.edit.Edit.{Edit}
use Rattle.ctt_edits.specs.declared.edit.Edit.TheVariants.{Place, Move, Swap, Reroom, Drop}
use Rattle.ctt_edits.specs.declared.looks.Look.{Look}
use Rattle.ctt_edits.specs.declared.looks.Look.TheVariants.{Course, Slot, Teacher, Curriculum, CourseCost, Price, Missing, Cheapest, Slots, Cost as WholeCost}
use Rattle.ctt_edits.specs.declared.call.Call.{Call}
use Rattle.ctt_edits.specs.declared.call.Call.TheVariants.{Look as Looks, Edit as Edits}
use Rattle.ctt_edits.specs.declared.fault.EditFault.{EditFault}
use Rattle.ctt_edits.specs.declared.fault.EditFault.TheVariants.{NotPlaced, SameSlot, SameCourse, AlreadyThere, CourseFull, Unavailable, Barred, Blocked, Clash, RoomTaken}
use Rattle.ctt_edits.specs.declared.reply.Reply.{Reply}
use Rattle.ctt_edits.specs.declared.reply.Reply.TheVariants.{Done, Price as Priced, Missing as AreMissing, Edits as AreCheapest, Slots as AreOffers}
use Rattle.ctt_edits.specs.Edits.{EditFits, or_else, fault_if, try_fault, try_room_of, edit_fault, edited}
use Rattle.ctt_edits.specs.Looks.{LookFits, told_or, price, shown}
use Rattle.ctt_edits.specs.Calls.{CallFits, reply}
use Rattle.ctt_edits.proofs.EditLemmas.{room_fits, edits_keep_lawful}
use Rattle.ctt_edits.proofs.FaultLemmas.{try_is}
use Rattle.ctt_edits.specs.Fitting.{FaultFits, IsAmount, CostFits, AreFew, ShortfallFits, PricedFits, OfferFits, IsReply}
use Rattle.ctt_edits.specs.EditLaws.{RepliesFit}
use Rattle.ctt_edits.specs.Missing.{is_short, shortfall, missing}
use Rattle.ctt_edits.specs.Offers.{pattern_of, edits_to, is_better, offer_by, offer, slot_offer, offers}
use Rattle.ctt_edits.specs.Patterns.{PatternFits, pattern_fault, edits_of, with_price, feasible, is_cheaper, by_price, cheapest}
use Rattle.ctt_edits.specs.declared.pattern.Pattern.{Pattern}
use Rattle.ctt_edits.specs.declared.pattern.Pattern.TheVariants.{Place as AnyPlace, Move as AnyMove, Swap as AnySwap, Reroom as AnyReroom}
use Rattle.ctt_edits.specs.declared.offer.Offer.{Offer}
use Rattle.ctt_edits.specs.declared.offer.Offer.TheVariants.{Nothing}
use Rattle.ctt_edits.specs.declared.priced_edit.PricedEdit.{PricedEdit}
use Rattle.ctt_edits.specs.declared.slot_pattern.SlotPattern.{SlotPattern}
use Rattle.ctt_edits.proofs.CheapestLemmas.{edits_fit}
use Rattle.ctt_edits.proofs.OfferLemmas.{edits_to_fit}
use Rattle.ctt_edits.proofs.PriceOrder.{inserted}

length-filter : {X : Type 0} (p : X → Bool) (xs : List X) → length (filter p xs) ≤ length xs
length-filter p [] = omega arith
length-filter p (x ∷ xs) = elim (cases_Bool (p x)) [ inl b ↦ rw b (omega (arith, length-filter p xs)) | inr b ↦ rw b (omega (arith, length-filter p xs)) ]

length-take_most : {X : Type 0} (n : ℕ) (xs : List X) → length (take n xs) ≤ n
length-take_most n xs = omega (arith, length-take n xs)

pub none_is : {X : Type 0} (o : Option X) → is_none o ≡ true → o ≡ None
none_is None h = refl
none_is (Some x) h = cc

-- the difference of two amounts
difference_small : (a b n : ℕ) → a ≤ n → b ≤ n → unsigned_abs (pos a -ℤ pos b) ≤ n
difference_small a b n h k = grind (arith, ints)

-- a fault, if there is one, that fits
pub record MayFit (i : Problem) (o : Option EditFault) : Type 0 where
  pub fits : IfSome o (FaultFits i)

module _ (i : Problem) where
  else_fits : (f g : Option EditFault) → MayFit i f → MayFit i g → MayFit i (or_else f g)
  else_fits None g h k = k
  else_fits (Some f) g h k = h

  if_fits : (b : Bool) (f : EditFault) → FaultFits i f → MayFit i (fault_if b f)
  if_fits true f h = record { fits = h }
  if_fits false f h = record { fits = tt }

  -- the course of a lecture that was found
  module _ (fault : ℕ → EditFault) (fits : (c : ℕ) → c < course_count i → FaultFits i (fault c)) (p : Placed → Bool) where
    named_fits : (ls : List Placed) → Each (Fits i) ls → MayFit i (option_map fault (course_named (find p ls)))
    named_fits [] h = record { fits = tt }
    named_fits (l ∷ ls) h = elim (cases_Bool (p l)) [ inl b ↦ rw b (record { fits = fits l.course h.0.0 }) | inr b ↦ rw b (named_fits ls h.1) ]

  try_fits : (t : List Placed) → Each (Fits i) t → (c s r : ℕ) → MayFit i (try_fault i t c s r)
  try_fits t h c s r =
      let slot : Each (Fits i) (slot_row s t) = Each-filter (Fits i) (λ l. l.slot == s) t h in
      subst (MayFit i) (sym (try_is i t c s r))
      (else_fits _ _ (if_fits _ AlreadyThere tt)
      (else_fits _ _ (if_fits _ CourseFull tt)
      (else_fits _ _ (else_fits _ _ (if_fits _ Unavailable tt) (else_fits _ _ (if_fits _ Barred tt) (if_fits _ Blocked tt)))
      (else_fits _ _ (named_fits Clash (λ d lt. lt) (λ l. clash i c l.course) (slot_row s t) slot)
      (named_fits RoomTaken (λ d lt. lt) (λ l. l.room == r) (slot_row s t) slot)))))

  try_room_fits : (t : List Placed) → Each (Fits i) t → (c s : ℕ) (o : Option ℕ) → MayFit i (try_room_of i t c s o)
  try_room_fits t h c s None = record { fits = tt }
  try_room_fits t h c s (Some r) = try_fits t h c s r

  fits_without : (t : List Placed) (c s : ℕ) → Each (Fits i) t → Each (Fits i) (without c s t)
  fits_without t c s h = Each-filter (Fits i) _ t h

  fits_at : (t : List Placed) (c s : ℕ) (o : Option ℕ) → Each (Fits i) t → c < course_count i → s < slot_count i → ((r : ℕ) → o ≡ Some r → r < room_count i) → Each (Fits i) (apply_at c s o t)
  fits_at t c s None h cf sf rf = fits_without t c s h
  fits_at t c s (Some r) h cf sf rf = Each-put (Fits i) before _ t (cf, sf, rf r refl) h

  -- the fault of an edit names a course of the instance
  pub edit_fits : (t : List Placed) (e : Edit) → Lawful i t → EditFits i e → MayFit i (edit_fault i t e)
  edit_fits t (Place c s r) l f = try_fits t l.timetable.fits c s r
  edit_fits t (Move c s s2 r) l f =
      else_fits _ _ (if_fits _ NotPlaced tt)
      (else_fits _ _ (if_fits _ SameSlot tt)
      (try_fits (without c s t) (fits_without t c s l.timetable.fits) c s2 r))
  edit_fits t (Swap c s d s2) l f =
      let left : List Placed = without d s2 (without c s t) in
      let fit : Each (Fits i) left = fits_without (without c s t) d s2 (fits_without t c s l.timetable.fits) in
      else_fits _ _ (if_fits _ NotPlaced tt)
      (else_fits _ _ (if_fits _ SameCourse tt)
      (else_fits _ _ (try_room_fits left fit c s2 (room_at d s2 t))
      (try_room_fits (apply_at c s2 (room_at d s2 t) left) (fits_at left c s2 (room_at d s2 t) fit f.0 f.3 (λ r e. room_fits i t d s2 r l e)) d s (room_at c s t))))
  edit_fits t (Reroom c s r) l f =
      else_fits _ _ (if_fits _ NotPlaced tt)
      (try_fits (without c s t) (fits_without t c s l.timetable.fits) c s r)
  edit_fits t (Drop c s) l f = if_fits _ NotPlaced tt

  pattern_fault_fits : (t : List Placed) (p : Pattern) → MayFit i (pattern_fault i t p)
  pattern_fault_fits t (AnyPlace c s r) = if_fits _ CourseFull tt
  pattern_fault_fits t (AnyMove c s s2 r) = if_fits _ NotPlaced tt
  pattern_fault_fits t (AnySwap c s) = if_fits _ NotPlaced tt
  pattern_fault_fits t (AnyReroom c s r) = if_fits _ NotPlaced tt

  told_fits : (o : Option EditFault) (answer : Reply) → MayFit i o → (o ≡ None → IsReply i answer) → IsReply i (told_or o answer)
  told_fits None answer h k = k refl
  told_fits (Some f) answer h k = (h.fits, tt)

  -- what an edit offers, and the one that is found
  offer_by_fits : (o : Option EditFault) (p : PricedEdit) → MayFit i o → (o ≡ None → PricedFits i p) → OfferFits i (offer_by o p)
  offer_by_fits None p h k = k refl
  offer_by_fits (Some f) p h k = h.fits

  found_fits : (q : Offer → Bool) (xs : List Offer) → Each (OfferFits i) xs → OfferFits i (unwrap_or (find q xs) Nothing)
  found_fits q [] h = tt
  found_fits q (x ∷ xs) h = elim (cases_Bool (q x)) [ inl b ↦ rw b h.0 | inr b ↦ rw b (found_fits q xs h.1) ]

  module _ (is : IsProblem i) (t : List Placed) (lawful : Lawful i t) where
    part_fits : (p : Placed → Bool) → Each (Fits i) (filter p t) × AreFew (filter p t)
    part_fits p =
        let few : length t ≤ 4000000 = few_lectures i t lawful.timetable is in
        (Each-filter (Fits i) p t lawful.timetable.fits, omega (arith, length-filter p t, few))

    cost_fits : (c : Cost) → total c ≤ 9223372036854775807 → CostFits c
    cost_fits c h = (omega (arith, h), omega (arith, h), omega (arith, h), omega (arith, h))

    price_fits : (e : Edit) → EditFits i e → edit_fault i t e ≡ None → IsAmount (unsigned_abs (price i t e))
    price_fits e f none =
        let after : Lawful i (edited t e) = edits_keep_lawful i t e lawful f none in
        let small : total (penalty i t) ≤ 9223372036854775807 = omega (arith, penalty_small i is t lawful.timetable) in
        let small_after : total (penalty i (edited t e)) ≤ 9223372036854775807 = omega (arith, penalty_small i is (edited t e) after.timetable) in
        difference_small (total (penalty i (edited t e))) (total (penalty i t)) 9223372036854775807 small_after small

    short_fits : (n : ℕ) → n ≤ course_count i → Each (ShortfallFits i) (map (shortfall i t) (below (is_short i t) n))
    short_fits zero le = tt
    short_fits (suc n) le = elim (cases_Bool (is_short i t n)) [
      | inl b ↦ rw (b, map-append (shortfall i t) (below (is_short i t) n) (n ∷ [])) (Each-append (ShortfallFits i) (map (shortfall i t) (below (is_short i t) n)) (shortfall i t n ∷ []) (short_fits n (omega (arith, le))) ((omega (arith, le), omega (arith, lectures_small i is n)), tt))
      | inr b ↦ rw (b, append-nil (below (is_short i t) n)) (short_fits n (omega (arith, le)))
    ]

    short_few : (n : ℕ) → length (below (is_short i t) n) ≤ n
    short_few zero = omega arith
    short_few (suc n) = elim (cases_Bool (is_short i t n)) [
      | inl b ↦ rw (b, length-append (below (is_short i t) n) (n ∷ [])) (omega (arith, short_few n))
      | inr b ↦ rw (b, append-nil (below (is_short i t) n)) (omega (arith, short_few n))
    ]

    missing_fits : IsReply i (AreMissing (missing i t))
    missing_fits = (short_fits (course_count i) (omega arith), few)
      where
        few : length (map (shortfall i t) (below (is_short i t) (course_count i))) ≤ 999999999
        few = rw (length-map (below (is_short i t) (course_count i)) (shortfall i t)) (omega (arith, short_few (course_count i), is.courses_few))

    feasible_fit : (es : List Edit) → Each (EditFits i) es → Each (PricedFits i) (feasible i t es)
    feasible_fit [] f = tt
    feasible_fit (e ∷ es) f = elim (cases_Bool (is_none (edit_fault i t e))) [
      | inl b ↦ rw b ((f.0, price_fits e f.0 (none_is (edit_fault i t e) b)), feasible_fit es f.1)
      | inr b ↦ rw b (feasible_fit es f.1)
    ]

    ordered_fit : (xs ys : List PricedEdit) → Each (PricedFits i) xs → Each (PricedFits i) ys → Each (PricedFits i) (inserted xs ys)
    ordered_fit xs [] h k = h
    ordered_fit xs (y ∷ ys) h k = ordered_fit (put is_cheaper y xs) ys (Each-put (PricedFits i) is_cheaper y xs k.0 h) k.1

    cheapest_fits : (n : ℕ) (p : Pattern) → n ≤ 1000 → PatternFits i p → IsReply i (AreCheapest (cheapest i t n p))
    cheapest_fits n p le f = (
      Each-take (PricedFits i) n (by_price (feasible i t (edits_of i p))) (ordered_fit [] (feasible i t (edits_of i p)) tt (feasible_fit (edits_of i p) (edits_fit i p f))),
      omega (arith, length-take_most n (by_price (feasible i t (edits_of i p))), le),
    )

    offer_fits : (e : Edit) → EditFits i e → OfferFits i (offer i t e)
    offer_fits e f = offer_by_fits (edit_fault i t e) (with_price i t e) (edit_fits t e lawful f) (λ none. (f, price_fits e f none))

    slot_fits : (p : SlotPattern) (x : ℕ) → PatternFits i (pattern_of p) → OfferFits i (slot_offer i t p x)
    slot_fits p x f =
        let told : List Offer = map (offer i t) (edits_to i p x) in
        found_fits (λ o. not (list_any (λ y. is_better y o) told)) told
        (Each-mapped (OfferFits i) (offer i t) (edits_to i p x) (Each-map (EditFits i) (λ e. OfferFits i (offer i t e)) offer_fits (edits_to i p x) (edits_to_fit i p x f)))

    offers_fit : (p : SlotPattern) → PatternFits i (pattern_of p) → IsReply i (AreOffers (offers i t p))
    offers_fit p f = (Each-mapped (OfferFits i) (slot_offer i t p) slots (Each-every (λ x. OfferFits i (slot_offer i t p x)) (λ x. slot_fits p x f) slots), few)
      where
        slots : List ℕ
        slots = range_with_len 0 (slot_count i)

        few : length (map (slot_offer i t p) slots) ≤ 999999999
        few = rw (length-map slots (slot_offer i t p), length-range_with_len 0 (slot_count i)) (omega (arith, is.slots_few))

    look_fits : (look : Look) → LookFits i look → IsReply i (shown i t look)
    look_fits (Course c) f = part_fits _
    look_fits (Slot s) f = part_fits _
    look_fits (Teacher h) f = part_fits _
    look_fits (Curriculum q) f = part_fits _
    look_fits (CourseCost c) f = (cost_fits (course_cost i t c) (omega (arith, course_cost_small i is t lawful.timetable c)), tt)
    look_fits (Price e) f = told_fits (edit_fault i t e) (Priced (price i t e)) (edit_fits t e lawful f) (λ none. (price_fits e f none, tt))
    look_fits Missing f = missing_fits
    look_fits (Cheapest n p) f = told_fits (pattern_fault i t p) (AreCheapest (cheapest i t n p)) (pattern_fault_fits t p) (λ none. cheapest_fits n p f.0 f.1)
    look_fits (Slots p) f = told_fits (pattern_fault i t (pattern_of p)) (AreOffers (offers i t p)) (pattern_fault_fits t (pattern_of p)) (λ none. offers_fit p f)
    look_fits WholeCost f = (cost_fits (penalty i t) (omega (arith, penalty_small i is t lawful.timetable)), tt)

    reply_fits : (call : Call) → CallFits i call → IsReply i (reply i t call)
    reply_fits (Looks look) f = look_fits look f
    reply_fits (Edits e) f = told_fits (edit_fault i t e) Done (edit_fits t e lawful f) (λ none. (tt, tt))

pub replies_fit : RepliesFit
replies_fit i t call is lawful f = reply_fits i is t lawful call f
