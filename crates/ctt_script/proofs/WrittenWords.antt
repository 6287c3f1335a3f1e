-- The words written for a reply or a journal match the grammar and give it back.
use Rattle.std.proofs.Common.{◌≡◌, ℕ, List, [], ◌∷◌, length, flat_map, Some, None, refl, arith}
use Rattle.std.specs.Prelude.{codes}
use Rattle.std.specs.List.{AllByRecursion as Each}
use Rattle.std.specs.Fmt.{decimal, signed_decimal}
use Rattle.ctt_problem.specs.Named.{IsNamed}
use Rattle.ctt_problem.specs.Problem.{Problem, IsProblem}
use Rattle.ctt_problem.specs.Timetable.{Fits}
use Rattle.ctt_problem.specs.declared.placed.Placed.{Placed}
use Rattle.ctt_text.specs.Forms.{Fills, list_of}
use Rattle.ctt_text.proofs.FormLaws.{fills_both, list_fills}
use Rattle.ctt_rules.specs.declared.cost.Cost.{Cost as Cost_}
use Rattle.ctt_edits.specs.declared.offer.Offer.{Offer}
use Rattle.ctt_edits.specs.declared.offer.Offer.TheVariants as offer
use Rattle.ctt_edits.specs.declared.priced_edit.PricedEdit.{PricedEdit}
use Rattle.ctt_edits.specs.declared.shortfall.Shortfall.{Shortfall}
use Rattle.ctt_edits.specs.declared.fault.EditFault.{EditFault}
use Rattle.ctt_edits.specs.declared.fault.EditFault.TheVariants.{NotPlaced, SameSlot, SameCourse, AlreadyThere, CourseFull, Unavailable, Barred, Blocked, Clash, RoomTaken}
use Rattle.ctt_edits.specs.declared.reply.Reply.{Reply}
use Rattle.ctt_edits.specs.declared.reply.Reply.TheVariants.{Done, Refused, Lectures, Costs, Price as Priced, Missing as AreMissing, Edits as AreCheapest, Slots as AreOffers}
use Rattle.ctt_script.specs.declared.kinds.FaultKind.{FaultKind}
use Rattle.ctt_script.specs.declared.kinds.FaultKind.TheVariants as fault
use Rattle.ctt_script.specs.Amounts.{price_of, number_below}
use Rattle.ctt_script.specs.Kinds.{reply_kind, fault_kind}
use Rattle.ctt_draft.specs.declared.asked.Asked.{Asked}
use Rattle.ctt_core.specs.declared.journal.JournalEntry.{JournalEntry}
use Rattle.ctt_edits.specs.Fitting.{FaultFits, ShortfallFits, PricedFits, OfferFits, ReplyFits, AreFew, IsShortReply}
use Rattle.ctt_draft.specs.Drafts.{AskedFits}
use Rattle.ctt_core.specs.Entries.{EntryFits}
use Rattle.ctt_script.specs.Entries.{IsShort, IsAsked, CanBeWritten}
use Rattle.ctt_script.specs.JournalWords.{mark_or}
use Rattle.ctt_script.specs.Calls.{edit_form, call_form}
use Rattle.ctt_script.specs.Replies.{fault_after, fault_form, lecture, lectures, costs_form, shortfall_form, shortfalls, priced_form, priced_edits, refusal_after, refusal, offer_after, offer_form, offers_form, reply_after, reply_form}
use Rattle.ctt_script.specs.Journals.{asked_form, entry_form, journal_form}
use Rattle.ctt_script.specs.WrittenWords.{edit_words, call_words, fault_words, lecture_words, shortfall_words, priced_words, offer_words, reply_words, asked_words, entry_words, journal_words}
use Rattle.ctt_script.proofs.WrittenCalls.{word_then, label_then, count_then, amount_then, fills_map, after_word, has_meaning, price_says, below_says, course_then, room_then, slot_then, edit_fills, call_fills}

module _ (i : Problem) (is : IsProblem i) (named : IsNamed i) where
  fault_fills : (x : EditFault) → FaultFits i x → Fills (fault_form i) (fault_words i x) x
  unfolding fault_form fault_after fault_kind
  fault_fills NotPlaced f = word_then fault_kind _ _ _ _ _ _ refl refl
  fault_fills SameSlot f = word_then fault_kind _ _ _ _ _ _ refl refl
  fault_fills SameCourse f = word_then fault_kind _ _ _ _ _ _ refl refl
  fault_fills AlreadyThere f = word_then fault_kind _ _ _ _ _ _ refl refl
  fault_fills CourseFull f = word_then fault_kind _ _ _ _ _ _ refl refl
  fault_fills Unavailable f = word_then fault_kind _ _ _ _ _ _ refl refl
  fault_fills Barred f = word_then fault_kind _ _ _ _ _ _ refl refl
  fault_fills Blocked f = word_then fault_kind _ _ _ _ _ _ refl refl
  fault_fills (Clash c) f = word_then fault_kind _ _ _ _ _ _ refl (course_then i is named _ c _ _ f refl)
  fault_fills (RoomTaken c) f = word_then fault_kind _ _ _ _ _ _ refl (course_then i is named _ c _ _ f refl)

  lecture_fills : (l : Placed) → Fits i l → Fills (lecture i) (lecture_words i l) l
  unfolding lecture
  lecture_fills l f = course_then i is named _ l.course _ _ f.0 (room_then i is named _ l.room _ _ f.2 (slot_then i is named _ l.slot _ _ f.1 refl))

  lectures_fills : (ls : List Placed) → AreFew ls → Each (Fits i) ls → Fills (lectures i) (decimal (length ls) ∷ flat_map (lecture_words i) ls) ls
  unfolding lectures
  lectures_fills ls few f = count_then _ (length ls) _ ls few (list_fills (lecture i) (Fits i) (lecture_words i) lecture_fills ls f)

  costs_fills : (c : Cost_) → ReplyFits i (Costs c) → Fills costs_form (decimal c.capacity ∷ decimal c.days ∷ decimal c.compactness ∷ decimal c.stability ∷ []) c
  unfolding costs_form
  costs_fills c f = amount_then _ c.capacity _ _ f.0 (amount_then _ c.days _ _ f.1 (amount_then _ c.compactness _ _ f.2 (amount_then _ c.stability _ _ f.3 refl)))

  shortfall_fills : (s : Shortfall) → ShortfallFits i s → Fills (shortfall_form i) (shortfall_words i s) s
  unfolding shortfall_form
  shortfall_fills s f = course_then i is named _ s.course _ _ f.0 (count_then _ s.missing _ _ f.1 refl)

  shortfalls_fills : (xs : List Shortfall) → AreFew xs → Each (ShortfallFits i) xs → Fills (shortfalls i) (decimal (length xs) ∷ flat_map (shortfall_words i) xs) xs
  unfolding shortfalls
  shortfalls_fills xs few f = count_then _ (length xs) _ xs few (list_fills (shortfall_form i) (ShortfallFits i) (shortfall_words i) shortfall_fills xs f)

  priced_fills : (p : PricedEdit) → PricedFits i p → Fills (priced_form i) (priced_words i p) p
  unfolding priced_form
  priced_fills p f = word_then price_of _ _ (signed_decimal p.price) _ p.price p (price_says p.price f.1) (fills_map (edit_form i) (λ e. record { edit = e; price = p.price }) (edit_words i p.edit) p.edit (edit_fills i is named p.edit f.0))

  priced_edits_fills : (xs : List PricedEdit) → AreFew xs → Each (PricedFits i) xs → Fills (priced_edits i) (decimal (length xs) ∷ flat_map (priced_words i) xs) xs
  unfolding priced_edits
  priced_edits_fills xs few f = count_then _ (length xs) _ xs few (list_fills (priced_form i) (PricedFits i) (priced_words i) priced_fills xs f)

  -- a fault after `-`
  refusal_by : (k : FaultKind) (w : List ℕ) (ws : List (List ℕ)) (x : EditFault) → fault_kind w ≡ Some k → fault_kind (codes "none") ≡ None → Fills (fault_form i) (w ∷ ws) x → Fills (refusal i) (w ∷ ws) (offer.Refused x)
  unfolding refusal refusal_after fault_form
  refusal_by k w ws x h none fills = word_then (mark_or (codes "none") fault_kind) None _ w ws (Some k) (offer.Refused x) (has_meaning (codes "none") fault_kind w k none h)
      (fills_map (fault_after i k) offer.Refused ws x (after_word fault_kind fault.NotPlaced (fault_after i) w ws k x h fills))

  refusal_fills : (x : EditFault) → FaultFits i x → Fills (refusal i) (fault_words i x) (offer.Refused x)
  unfolding fault_kind
  refusal_fills NotPlaced f = refusal_by fault.NotPlaced _ _ _ refl refl (fault_fills NotPlaced f)
  refusal_fills SameSlot f = refusal_by fault.SameSlot _ _ _ refl refl (fault_fills SameSlot f)
  refusal_fills SameCourse f = refusal_by fault.SameCourse _ _ _ refl refl (fault_fills SameCourse f)
  refusal_fills AlreadyThere f = refusal_by fault.AlreadyThere _ _ _ refl refl (fault_fills AlreadyThere f)
  refusal_fills CourseFull f = refusal_by fault.CourseFull _ _ _ refl refl (fault_fills CourseFull f)
  refusal_fills Unavailable f = refusal_by fault.Unavailable _ _ _ refl refl (fault_fills Unavailable f)
  refusal_fills Barred f = refusal_by fault.Barred _ _ _ refl refl (fault_fills Barred f)
  refusal_fills Blocked f = refusal_by fault.Blocked _ _ _ refl refl (fault_fills Blocked f)
  refusal_fills (Clash c) f = refusal_by fault.Clash _ _ _ refl refl (fault_fills (Clash c) f)
  refusal_fills (RoomTaken c) f = refusal_by fault.RoomTaken _ _ _ refl refl (fault_fills (RoomTaken c) f)

  none_fills : Fills (refusal i) (codes "none" ∷ []) offer.Nothing
  unfolding refusal refusal_after
  none_fills = word_then (mark_or (codes "none") fault_kind) None _ (codes "none") [] None _ refl refl

  offer_fills : (x : Offer) → OfferFits i x → Fills (offer_form i) (offer_words i x) x
  unfolding offer_form offer_after
  offer_fills (offer.Priced p) f = word_then (mark_or (codes "-") price_of) None _ (signed_decimal p.price) _ (Some p.price) _ (has_meaning (codes "-") price_of (signed_decimal p.price) p.price refl (price_says p.price f.1))
      (fills_map (edit_form i) (λ e. offer.Priced (record { edit = e; price = p.price })) (edit_words i p.edit) p.edit (edit_fills i is named p.edit f.0))
  offer_fills (offer.Refused x) f = word_then (mark_or (codes "-") price_of) None _ (codes "-") _ None _ refl (refusal_fills x f)
  offer_fills offer.Nothing f = word_then (mark_or (codes "-") price_of) None _ (codes "-") _ None _ refl none_fills

  offers_fills : (xs : List Offer) → AreFew xs → Each (OfferFits i) xs → Fills (offers_form i) (decimal (length xs) ∷ flat_map (offer_words i) xs) xs
  unfolding offers_form
  offers_fills xs few f = count_then _ (length xs) _ xs few (list_fills (offer_form i) (OfferFits i) (offer_words i) offer_fills xs f)

  pub reply_fills : (t : Reply) → IsShortReply t → ReplyFits i t → Fills (reply_form i) (reply_words i t) t
  unfolding reply_form reply_after reply_kind
  reply_fills Done short f = word_then reply_kind _ _ _ _ _ _ refl refl
  reply_fills (Refused x) short f = word_then reply_kind _ _ _ _ _ _ refl (fills_map (fault_form i) Refused (fault_words i x) x (fault_fills x f))
  reply_fills (Lectures ls) short f = word_then reply_kind _ _ _ _ _ _ refl (fills_map (lectures i) Lectures _ ls (lectures_fills ls short f))
  reply_fills (Costs c) short f = word_then reply_kind _ _ _ _ _ _ refl (fills_map costs_form Costs _ c (costs_fills c f))
  reply_fills (Priced p) short f = word_then reply_kind _ _ _ _ _ _ refl (word_then price_of _ _ (signed_decimal p) [] p _ (price_says p f) refl)
  reply_fills (AreMissing xs) short f = word_then reply_kind _ _ _ _ _ _ refl (fills_map (shortfalls i) AreMissing _ xs (shortfalls_fills xs short f))
  reply_fills (AreCheapest xs) short f = word_then reply_kind _ _ _ _ _ _ refl (fills_map (priced_edits i) AreCheapest _ xs (priced_edits_fills xs short f))
  reply_fills (AreOffers xs) short f = word_then reply_kind _ _ _ _ _ _ refl (fills_map (offers_form i) AreOffers _ xs (offers_fills xs short f))

  asked_fills : (s : Asked) → IsAsked i s → Fills (asked_form i) (asked_words i s) s
  unfolding asked_form
  asked_fills s f = fills_both (call_form i) _ (call_words i s.call) (reply_words i s.reply) s.call s (call_fills i is named s.call f.0.0)
      (fills_map (reply_form i) (λ t. record { call = s.call; reply = t }) (reply_words i s.reply) s.reply (reply_fills s.reply f.1 f.0.1))

  asked_are : (ss : List Asked) → Each (AskedFits i) ss → Each (λ s. IsShortReply s.reply) ss → Each (IsAsked i) ss
  asked_are [] f short = tt
  asked_are (s ∷ ss) f short = ((f.0, short.0), asked_are ss f.1 short.1)

  pub entry_fills : (e : JournalEntry) → CanBeWritten i e → Fills (entry_form i) (entry_words i e) e
  unfolding entry_form
  entry_fills e f =
      label_then (codes "entry") _ _ e refl
      (word_then (number_below 1000) 0 _ (decimal e.planner) _ e.planner e (below_says 1000 e.planner f.0.0 (omega (arith, f.0.0)))
      (count_then _ (length e.asked) _ e f.1.0
      (fills_map (list_of (asked_form i) (length e.asked)) (λ asked. record { planner = e.planner; asked = asked }) _ e.asked
      (list_fills (asked_form i) (IsAsked i) (asked_words i) asked_fills e.asked (asked_are e.asked f.0.1 f.1.1)))))

  entries_are : (es : List JournalEntry) → Each (EntryFits i) es → Each IsShort es → Each (CanBeWritten i) es
  entries_are [] f short = tt
  entries_are (e ∷ es) f short = ((f.0, short.0), entries_are es f.1 short.1)

  -- the words of a journal match the grammar and give it back
  pub journal_fills : (es : List JournalEntry) → AreFew es → Each (EntryFits i) es → Each IsShort es → Fills (journal_form i) (journal_words i es) es
  unfolding journal_form
  journal_fills es few f short =
      label_then (codes "journal") _ _ es refl
      (count_then _ (length es) _ es few
      (fills_both (list_of (entry_form i) (length es)) _ (flat_map (entry_words i) es) (codes "END." ∷ []) es es
      (list_fills (entry_form i) (CanBeWritten i) (entry_words i) entry_fills es (entries_are es f short))
      (label_then (codes "END.") _ [] es refl refl)))
