-- What is parsed as a reply or as a journal fits the instance.
use Rattle.std.proofs.Common.{◌≡◌, ℕ, ◌≤◌, List, [], ◌∷◌, length, Bool, Option, Some, None, ℤ, pos, refl, sym, subst, ap, ◌∙◌}
use Rattle.std.specs.Prelude.{codes, nat_lt, nat_le, nat_eq, unsigned_abs, cond, ◌&&◌, zero, suc, true, false}
use Rattle.std.specs.Option.{option_map}
use Rattle.std.specs.Str.{bytes_eq}
use Rattle.std.specs.List.{list_all, AllByRecursion as Each}
use Rattle.std.proofs.lemmas.Bool.{leb-true, and_parts}
use Rattle.ctt_text.specs.Numbers.{is_digit, is_number, value, number_of}
use Rattle.ctt_problem.proofs.TimetableLemmas.{Each-map}
use Rattle.ctt_text.specs.Places.{fixed, number}
use Rattle.ctt_problem.specs.Problem.{Problem, IsProblem}
use Rattle.ctt_problem.specs.Timetable.{Fits}
use Rattle.ctt_rules.specs.declared.cost.Cost.{Cost}
use Rattle.ctt_script.specs.declared.journal_fault.JournalFault.{JournalFault}
use Rattle.ctt_script.specs.declared.kinds.ReplyKind.{ReplyKind}
use Rattle.ctt_script.specs.declared.kinds.ReplyKind.TheVariants as reply
use Rattle.ctt_script.specs.declared.kinds.FaultKind.{FaultKind}
use Rattle.ctt_script.specs.declared.kinds.FaultKind.TheVariants as fault
use Rattle.ctt_script.specs.Amounts.{is_amount, amount_of, price_of, negated}
use Rattle.ctt_draft.specs.declared.asked.Asked.{Asked}
use Rattle.ctt_core.specs.declared.journal.JournalEntry.{JournalEntry}
use Rattle.ctt_edits.specs.Fitting.{FaultFits, IsAmount, AreFew, IsShortReply, IsReply, ShortfallFits, PricedFits, OfferFits}
use Rattle.ctt_draft.specs.Drafts.{AskedFits}
use Rattle.ctt_script.specs.Entries.{IsAsked, CanBeWritten}
use Rattle.ctt_script.specs.JournalWords.{label, mark_or}
use Rattle.ctt_script.specs.Replies.{fault_after, fault_form, lecture, lectures, count, amount_form, costs_form, reply_after, reply_form, shortfall_form, shortfalls, priced_form, priced_edits, refusal_after, refusal, offer_after, offer_form, offers_form}
use Rattle.ctt_script.specs.Journals.{asked_form, entry_form, journal_form}
use Rattle.ctt_text.proofs.FormLaws.{Yields, yields_done, yields_bind, yields_list}
use Rattle.ctt_script.proofs.CallLemmas.{when, yields_meaning, yields_any, yields_course, yields_room, yields_slot, yields_below, yields_call, yields_edit}

amount_small : (w : List ℕ) (n : ℕ) → amount_of w ≡ Some n → IsAmount n
amount_small w n h =
    let known = when (is_amount w) (value w) n h in
    subst IsAmount known.1 (leb-true (value w) 9223372036854775807 (and_parts (nat_lt 0 (length w) && list_all is_digit w) (nat_le (value w) 9223372036854775807) known.0).1)

negated_abs : (n : ℕ) → unsigned_abs (negated n) ≡ n
negated_abs zero = refl
negated_abs (suc n) = refl

price_small : (w : List ℕ) (p : ℤ) → price_of w ≡ Some p → IsAmount (unsigned_abs p)
price_small [] p h = cc
price_small (b ∷ bs) p h = by (nat_eq b 45) (amount_of bs) (amount_of (b ∷ bs)) refl refl h
  where
    minus : (o : Option ℕ) → amount_of bs ≡ o → option_map negated o ≡ Some p → IsAmount (unsigned_abs p)
    minus None e h = cc
    minus (Some n) e h =
        let same : negated n ≡ p = cc in
        subst (λ q. IsAmount (unsigned_abs q)) same (subst IsAmount (sym (negated_abs n)) (amount_small bs n e))

    plus : (o : Option ℕ) → amount_of (b ∷ bs) ≡ o → option_map pos o ≡ Some p → IsAmount (unsigned_abs p)
    plus None e h = cc
    plus (Some n) e h =
        let same : pos n ≡ p = cc in
        subst (λ q. IsAmount (unsigned_abs q)) same (amount_small (b ∷ bs) n e)

    by : (is : Bool) (o u : Option ℕ) → amount_of bs ≡ o → amount_of (b ∷ bs) ≡ u → cond is (option_map negated (amount_of bs)) (option_map pos (amount_of (b ∷ bs))) ≡ Some p → IsAmount (unsigned_abs p)
    by true o u e f h = minus o e (ap (λ x. option_map negated x) (sym e) ∙ h)
    by false o u e f h = plus u f (ap (λ x. option_map pos x) (sym f) ∙ h)

-- a price, or `-`
abbrev pub IsAmountIfGiven : Option ℤ → Type 0
IsAmountIfGiven None = Unit {0}
IsAmountIfGiven (Some p) = IsAmount (unsigned_abs p)

price_choice : (w : List ℕ) (o : Option ℤ) → mark_or (codes "-") price_of w ≡ Some o → IsAmountIfGiven o
price_choice w o h = by (bytes_eq w (codes "-")) (price_of w) refl h
  where
    by : (b : Bool) (m : Option ℤ) → price_of w ≡ m → cond b (Some None) (option_map Some m) ≡ Some o → IsAmountIfGiven o
    by true m k h = let same : None ≡ o = cc in subst IsAmountIfGiven same tt
    by false None k h = cc
    by false (Some p) k h = let same : Some p ≡ o = cc in subst IsAmountIfGiven same (price_small w p k)

yields_amount : Yields IsAmount amount_form
unfolding amount_form
yields_amount = yields_meaning IsAmount amount_of 0 (λ w n h. amount_small w n h)

yields_count : Yields (λ n. n ≤ 999999999) count
unfolding count number
yields_count = yields_meaning (λ n. n ≤ 999999999) number_of 0 (λ w n h.
    let known = when (is_number w) (value w) n h in
    subst (λ k. k ≤ 999999999) known.1 (leb-true (value w) 999999999 (and_parts (nat_lt 0 (length w) && list_all is_digit w) (nat_le (value w) 999999999) known.0).1))

yields_label : (text : List ℕ) → Yields (λ _. Unit {0}) (label text)
unfolding fixed
yields_label text = yields_any _ _

abbrev CostFits : Cost → Type 0
CostFits c = IsAmount c.capacity × IsAmount c.days × IsAmount c.compactness × IsAmount c.stability

yields_costs : Yields CostFits costs_form
unfolding costs_form
yields_costs =
    yields_bind IsAmount CostFits _ _ yields_amount (λ a fa. yields_bind IsAmount CostFits _ _ yields_amount (λ b fb.
    yields_bind IsAmount CostFits _ _ yields_amount (λ c fc. yields_bind IsAmount CostFits _ _ yields_amount (λ d fd.
    yields_done JournalFault CostFits _ (fa, fb, fc, fd)))))

module _ (i : Problem) (is : IsProblem i) where
  yields_fault_after : (k : FaultKind) → Yields (FaultFits i) (fault_after i k)
  unfolding fault_after
  yields_fault_after fault.NotPlaced = yields_done JournalFault (FaultFits i) _ tt
  yields_fault_after fault.SameSlot = yields_done JournalFault (FaultFits i) _ tt
  yields_fault_after fault.SameCourse = yields_done JournalFault (FaultFits i) _ tt
  yields_fault_after fault.AlreadyThere = yields_done JournalFault (FaultFits i) _ tt
  yields_fault_after fault.CourseFull = yields_done JournalFault (FaultFits i) _ tt
  yields_fault_after fault.Unavailable = yields_done JournalFault (FaultFits i) _ tt
  yields_fault_after fault.Barred = yields_done JournalFault (FaultFits i) _ tt
  yields_fault_after fault.Blocked = yields_done JournalFault (FaultFits i) _ tt
  yields_fault_after fault.Clash = yields_bind _ (FaultFits i) _ _ (yields_course i is) (λ c f. yields_done JournalFault (FaultFits i) _ f)
  yields_fault_after fault.RoomTaken = yields_bind _ (FaultFits i) _ _ (yields_course i is) (λ c f. yields_done JournalFault (FaultFits i) _ f)

  yields_fault : Yields (FaultFits i) (fault_form i)
  unfolding fault_form
  yields_fault = yields_bind _ (FaultFits i) _ _ (yields_any _ _) (λ k t. yields_fault_after k)

  yields_lecture : Yields (Fits i) (lecture i)
  unfolding lecture
  yields_lecture =
      yields_bind _ (Fits i) _ _ (yields_course i is) (λ c fc. yields_bind _ (Fits i) _ _ (yields_room i is) (λ r fr. yields_bind _ (Fits i) _ _ (yields_slot i is) (λ s fs.
      yields_done JournalFault (Fits i) _ (fc, fs, fr))))

  yields_lectures : Yields (λ ls. Each (Fits i) ls × AreFew ls) (lectures i)
  unfolding lectures
  yields_lectures = yields_bind _ (λ ls. Each (Fits i) ls × AreFew ls) _ _ yields_count (λ n few words ls fills.
      let r = yields_list (lecture i) (Fits i) yields_lecture n words ls fills in
      (r.0, subst (λ k. k ≤ 999999999) (sym r.1) few))

  yields_shortfall : Yields (ShortfallFits i) (shortfall_form i)
  unfolding shortfall_form
  yields_shortfall = yields_bind _ (ShortfallFits i) _ _ (yields_course i is) (λ c fc. yields_bind _ (ShortfallFits i) _ _ yields_count (λ n few. yields_done JournalFault (ShortfallFits i) _ (fc, few)))

  yields_shortfalls : Yields (λ xs. Each (ShortfallFits i) xs × AreFew xs) (shortfalls i)
  unfolding shortfalls
  yields_shortfalls = yields_bind _ (λ xs. Each (ShortfallFits i) xs × AreFew xs) _ _ yields_count (λ n few words xs fills.
      let r = yields_list (shortfall_form i) (ShortfallFits i) yields_shortfall n words xs fills in
      (r.0, subst (λ k. k ≤ 999999999) (sym r.1) few))

  yields_priced : Yields (PricedFits i) (priced_form i)
  unfolding priced_form
  yields_priced =
      yields_bind _ (PricedFits i) _ _ (yields_meaning (λ p. IsAmount (unsigned_abs p)) price_of (pos 0) (λ w p h. price_small w p h)) (λ p fp. yields_bind _ (PricedFits i) _ _ (yields_edit i is) (λ e fe.
      yields_done JournalFault (PricedFits i) _ (fe, fp)))

  yields_priced_edits : Yields (λ xs. Each (PricedFits i) xs × AreFew xs) (priced_edits i)
  unfolding priced_edits
  yields_priced_edits = yields_bind _ (λ xs. Each (PricedFits i) xs × AreFew xs) _ _ yields_count (λ n few words xs fills.
      let r = yields_list (priced_form i) (PricedFits i) yields_priced n words xs fills in
      (r.0, subst (λ k. k ≤ 999999999) (sym r.1) few))

  -- what a slot offers
  yields_refusal_after : (k : Option FaultKind) → Yields (OfferFits i) (refusal_after i k)
  unfolding refusal_after
  yields_refusal_after None = yields_done JournalFault (OfferFits i) _ tt
  yields_refusal_after (Some k) = yields_bind _ (OfferFits i) _ _ (yields_fault_after k) (λ f h. yields_done JournalFault (OfferFits i) _ h)

  yields_refusal : Yields (OfferFits i) (refusal i)
  unfolding refusal
  yields_refusal = yields_bind _ (OfferFits i) _ _ (yields_any _ _) (λ k t. yields_refusal_after k)

  yields_offer_after : (o : Option ℤ) → IsAmountIfGiven o → Yields (OfferFits i) (offer_after i o)
  unfolding offer_after
  yields_offer_after None f = yields_refusal
  yields_offer_after (Some p) f = yields_bind _ (OfferFits i) _ _ (yields_edit i is) (λ e fe. yields_done JournalFault (OfferFits i) _ (fe, f))

  yields_offer : Yields (OfferFits i) (offer_form i)
  unfolding offer_form
  yields_offer = yields_bind _ (OfferFits i) _ _ (yields_meaning IsAmountIfGiven (mark_or (codes "-") price_of) None (λ w o h. price_choice w o h)) (λ o f. yields_offer_after o f)

  yields_offers : Yields (λ xs. Each (OfferFits i) xs × AreFew xs) (offers_form i)
  unfolding offers_form
  yields_offers = yields_bind _ (λ xs. Each (OfferFits i) xs × AreFew xs) _ _ yields_count (λ n few words xs fills.
      let r = yields_list (offer_form i) (OfferFits i) yields_offer n words xs fills in
      (r.0, subst (λ k. k ≤ 999999999) (sym r.1) few))

  yields_reply_after : (k : ReplyKind) → Yields (IsReply i) (reply_after i k)
  unfolding reply_after
  yields_reply_after reply.Done = yields_done JournalFault (IsReply i) _ (tt, tt)
  yields_reply_after reply.Refused = yields_bind _ (IsReply i) _ _ yields_fault (λ f h. yields_done JournalFault (IsReply i) _ (h, tt))
  yields_reply_after reply.Lectures = yields_bind _ (IsReply i) _ _ yields_lectures (λ ls h. yields_done JournalFault (IsReply i) _ h)
  yields_reply_after reply.Costs = yields_bind _ (IsReply i) _ _ yields_costs (λ c h. yields_done JournalFault (IsReply i) _ (h, tt))
  yields_reply_after reply.Price = yields_bind _ (IsReply i) _ _ (yields_meaning (λ p. IsAmount (unsigned_abs p)) price_of (pos 0) (λ w p h. price_small w p h)) (λ p h. yields_done JournalFault (IsReply i) _ (h, tt))
  yields_reply_after reply.Missing = yields_bind _ (IsReply i) _ _ yields_shortfalls (λ xs h. yields_done JournalFault (IsReply i) _ h)
  yields_reply_after reply.Edits = yields_bind _ (IsReply i) _ _ yields_priced_edits (λ xs h. yields_done JournalFault (IsReply i) _ h)
  yields_reply_after reply.Slots = yields_bind _ (IsReply i) _ _ yields_offers (λ xs h. yields_done JournalFault (IsReply i) _ h)

  yields_reply : Yields (IsReply i) (reply_form i)
  unfolding reply_form
  yields_reply = yields_bind _ (IsReply i) _ _ (yields_any _ _) (λ k t. yields_reply_after k)

  pub yields_asked : Yields (IsAsked i) (asked_form i)
  unfolding asked_form
  yields_asked = yields_bind _ (IsAsked i) _ _ (yields_call i is) (λ c fc. yields_bind _ (IsAsked i) _ _ yields_reply (λ r fr. yields_done JournalFault (IsAsked i) _ ((fc, fr.0), fr.1)))

  all_fit : (ss : List Asked) → Each (IsAsked i) ss → Each (AskedFits i) ss
  all_fit ss each = Each-map (IsAsked i) (AskedFits i) (λ s f. f.0) ss each

  all_short : (ss : List Asked) → Each (IsAsked i) ss → Each (λ s. IsShortReply s.reply) ss
  all_short ss each = Each-map (IsAsked i) (λ s. IsShortReply s.reply) (λ s f. f.1) ss each

  pub yields_entry : Yields (CanBeWritten i) (entry_form i)
  unfolding entry_form
  yields_entry =
      yields_bind _ (CanBeWritten i) _ _ (yields_label _) (λ start t. yields_bind _ (CanBeWritten i) _ _ (yields_below i is 1000) (λ p fp. yields_bind _ (CanBeWritten i) _ _ yields_count (λ n few.
      yields_bind _ (CanBeWritten i) _ _ (yields_list (asked_form i) (IsAsked i) yields_asked n) (λ asked f. yields_done JournalFault (CanBeWritten i) _ ((fp, all_fit asked f.0), (subst (λ k. k ≤ 999999999) (sym f.1) few, all_short asked f.0))))))

  -- entries that can be written
  abbrev pub AreEntries : List JournalEntry → Type 0
  AreEntries es = Each (CanBeWritten i) es × AreFew es

  pub yields_journal : Yields AreEntries (journal_form i)
  unfolding journal_form
  yields_journal =
      yields_bind _ AreEntries _ _ (yields_label _) (λ start t. yields_bind _ AreEntries _ _ yields_count (λ n few.
      yields_bind _ AreEntries _ _ (yields_list (entry_form i) (CanBeWritten i) yields_entry n) (λ es f.
      yields_bind _ AreEntries _ _ (yields_label _) (λ end v. yields_done JournalFault AreEntries es (f.0, subst (λ k. k ≤ 999999999) (sym f.1) few)))))
