-- What is parsed of a journal, and the cause of each fault.
use Rattle.std.proofs.Common.{◌≡◌, ◌⊎◌, ℕ, ℤ, List, [], Vec, Global, Option, Some, None, Result, Ok, Err, IfOk, IfErr, MatchResult, inl, inr, ⊎_elim, refl, sym, ap, subst, ◌∙◌}
use Rattle.std.specs.List.{AllByRecursion as Each}
use Rattle.std.specs.Str.{IsUtf8}
use Rattle.ctt_text.specs.Words.{words}
use Rattle.ctt_problem.proofs.TimetableLemmas.{Each-map}
use Rattle.ctt_problem.specs.Problem.{Problem, IsProblem}
use Rattle.ctt_text.specs.Forms.{Form, ◌>>=◌, one_more, list_of}
use Rattle.ctt_text.specs.Places.{one, known, broken_unless, known_name, fixed, number}
use Rattle.ctt_text.specs.Reading.{Gives, Fails}
use Rattle.ctt_text.proofs.FormLaws.{read_fills, answer_fills, fills_answer, answer_breaks, breaks_answer}
use Rattle.ctt_problem.proofs.ResultLemmas.{ok_same, ok_is_err, err_same}
use Rattle.ctt_text.proofs.FaultLaws.{FormFaults, bind_faults, times_faults, answer_faults}
use Rattle.ctt_script.specs.declared.journal_fault.JournalFault.{JournalFault}
use Rattle.ctt_script.specs.declared.journal_fault.JournalFault.TheVariants.{NotText, Missing, BadWord, NoMemory}
use Rattle.ctt_script.specs.declared.kinds.EditKind.{EditKind}
use Rattle.ctt_script.specs.declared.kinds.EditKind.TheVariants as edit
use Rattle.ctt_script.specs.declared.kinds.PatternKind.{PatternKind}
use Rattle.ctt_script.specs.declared.kinds.PatternKind.TheVariants as pattern
use Rattle.ctt_script.specs.declared.kinds.SlotPatternKind.{SlotPatternKind}
use Rattle.ctt_script.specs.declared.kinds.SlotPatternKind.TheVariants as to_any
use Rattle.ctt_script.specs.declared.kinds.LookKind.{LookKind}
use Rattle.ctt_script.specs.declared.kinds.LookKind.TheVariants as look
use Rattle.ctt_script.specs.declared.kinds.CallKind.{CallKind}
use Rattle.ctt_script.specs.declared.kinds.CallKind.TheVariants as kind
use Rattle.ctt_script.specs.declared.kinds.ReplyKind.{ReplyKind}
use Rattle.ctt_script.specs.declared.kinds.ReplyKind.TheVariants as reply
use Rattle.ctt_script.specs.declared.kinds.FaultKind.{FaultKind}
use Rattle.ctt_script.specs.declared.kinds.FaultKind.TheVariants as fault
use Rattle.ctt_core.specs.declared.journal.JournalEntry.{JournalEntry}
use Rattle.ctt_edits.specs.Fitting.{AreFew}
use Rattle.ctt_text.specs.Left.{Left}
use Rattle.ctt_edits.specs.Calls.{CallFits}
use Rattle.ctt_edits.specs.declared.call.Call.{Call}
use Rattle.ctt_core.specs.Entries.{EntryFits}
use Rattle.ctt_script.specs.Entries.{IsShort, CanBeWritten}
use Rattle.ctt_script.specs.JournalWords.{word, missing_word, parses, journal_wants_memory}
use Rattle.ctt_script.specs.Calls.{course_form, room_form, teacher, curriculum_form, slot, edit_after, edit_form, look_after, call_after, call_form, room_choice, slot_after, slot_choice, pattern_after, pattern_form, any_slot, anywhere_after, anywhere_form}
use Rattle.ctt_script.specs.Replies.{fault_after, fault_form, lecture, lectures, count, amount_form, costs_form, reply_after, reply_form, shortfall_form, shortfalls, priced_form, priced_edits, refusal_after, refusal, offer_after, offer_form, offers_form}
use Rattle.ctt_script.specs.Journals.{asked_form, entry_form, journal_form}
use Rattle.ctt_script.specs.JournalText.{JournalSpells, JournalBreaksAt, journal_answer, IsJournalCauseOf}
use Rattle.ctt_script.proofs.CallLemmas.{yields_call}
use Rattle.ctt_script.proofs.EntryLemmas.{yields_journal}

-- a fault of the grammar, which names a word
abbrev IsOfWord : JournalFault → Type 0
IsOfWord (NotText byte) = ⊥
IsOfWord NoMemory = ⊥
IsOfWord fault = Unit {0}

-- a grammar all of whose faults name words
abbrev Names : {A : Type 0} → Form JournalFault A → Type 0
Names form = FormFaults IsOfWord form

names_word : {A : Type 0} (meaning : List ℕ → Option A) (otherwise : A) → Names (word meaning otherwise)
unfolding known one
names_word {A} meaning otherwise = (λ w broken e k. by (meaning w) broken e k, λ w. tt)
  where
    by : (o : Option A) (broken : ℕ → JournalFault) → broken_unless BadWord o ≡ Some broken → (k : ℕ) → IsOfWord (broken k)
    by None broken e k = let same : BadWord ≡ broken = cc in subst (λ f. IsOfWord (f k)) same tt
    by (Some a) broken e k = cc

names_bind : {A B : Type 0} (f : Form JournalFault A) (g : A → Form JournalFault B) → Names f → ((a : A) → Names (g a)) → Names (f >>= g)
names_bind f g h k = bind_faults IsOfWord f g h k

names_list : {A : Type 0} (form : Form JournalFault A) (n : ℕ) → Names form → Names (list_of form n)
unfolding list_of one_more
names_list form n h = times_faults IsOfWord (one_more form) (λ so_far. names_bind form _ h (λ a. tt)) n []

names_course : (i : Problem) → Names (course_form i)
unfolding course_form known_name
names_course i = names_word _ _

names_room : (i : Problem) → Names (room_form i)
unfolding room_form known_name
names_room i = names_word _ _

names_slot : (i : Problem) → Names (slot i)
unfolding slot
names_slot i = names_bind _ _ (names_word _ _) (λ d. names_bind _ _ (names_word _ _) (λ p. tt))

names_edit_after : (i : Problem) (k : EditKind) → Names (edit_after i k)
unfolding edit_after
names_edit_after i edit.Place = names_bind _ _ (names_course i) (λ c. names_bind _ _ (names_room i) (λ r. names_bind _ _ (names_slot i) (λ s. tt)))
names_edit_after i edit.Move = names_bind _ _ (names_course i) (λ c. names_bind _ _ (names_slot i) (λ s. names_bind _ _ (names_room i) (λ r. names_bind _ _ (names_slot i) (λ t. tt))))
names_edit_after i edit.Swap = names_bind _ _ (names_course i) (λ c. names_bind _ _ (names_slot i) (λ s. names_bind _ _ (names_course i) (λ d. names_bind _ _ (names_slot i) (λ t. tt))))
names_edit_after i edit.Reroom = names_bind _ _ (names_course i) (λ c. names_bind _ _ (names_room i) (λ r. names_bind _ _ (names_slot i) (λ s. tt)))
names_edit_after i edit.Drop = names_bind _ _ (names_course i) (λ c. names_bind _ _ (names_slot i) (λ s. tt))

names_edit : (i : Problem) → Names (edit_form i)
unfolding edit_form
names_edit i = names_bind _ _ (names_word _ _) (λ k. names_edit_after i k)

names_room_choice : (i : Problem) → Names (room_choice i)
unfolding room_choice
names_room_choice i = names_word _ _

names_slot_after : (i : Problem) (day : Option ℕ) → Names (slot_after i day)
unfolding slot_after fixed
names_slot_after i None = names_bind _ _ (names_word _ _) (λ star. tt)
names_slot_after i (Some day) = names_bind _ _ (names_word _ _) (λ p. tt)

names_slot_choice : (i : Problem) → Names (slot_choice i)
unfolding slot_choice
names_slot_choice i = names_bind _ _ (names_word _ _) (λ day. names_slot_after i day)

names_pattern_after : (i : Problem) (k : PatternKind) → Names (pattern_after i k)
unfolding pattern_after fixed
names_pattern_after i pattern.Place = names_bind _ _ (names_course i) (λ c. names_bind _ _ (names_room_choice i) (λ r. names_bind _ _ (names_slot_choice i) (λ s. tt)))
names_pattern_after i pattern.Move = names_bind _ _ (names_course i) (λ c. names_bind _ _ (names_slot i) (λ s. names_bind _ _ (names_room_choice i) (λ r. names_bind _ _ (names_slot_choice i) (λ t. tt))))
names_pattern_after i pattern.Swap = names_bind _ _ (names_course i) (λ c. names_bind _ _ (names_slot i) (λ s. names_bind _ _ (names_word _ _) (λ x. names_bind _ _ (names_word _ _) (λ y. names_bind _ _ (names_word _ _) (λ z. tt)))))
names_pattern_after i pattern.Reroom = names_bind _ _ (names_course i) (λ c. names_bind _ _ (names_room_choice i) (λ r. names_bind _ _ (names_slot i) (λ s. tt)))

names_any_slot : Names any_slot
unfolding any_slot fixed
names_any_slot = names_bind _ _ (names_word _ _) (λ star. names_word _ _)

names_slot_pattern_after : (i : Problem) (k : SlotPatternKind) → Names (anywhere_after i k)
unfolding anywhere_after fixed
names_slot_pattern_after i to_any.Place = names_bind _ _ (names_course i) (λ c. names_bind _ _ (names_room_choice i) (λ r. names_bind _ _ names_any_slot (λ star. tt)))
names_slot_pattern_after i to_any.Move = names_bind _ _ (names_course i) (λ c. names_bind _ _ (names_slot i) (λ s. names_bind _ _ (names_room_choice i) (λ r. names_bind _ _ names_any_slot (λ star. tt))))
names_slot_pattern_after i to_any.Swap = names_bind _ _ (names_course i) (λ c. names_bind _ _ (names_slot i) (λ s. names_bind _ _ (names_word _ _) (λ x. names_bind _ _ names_any_slot (λ star. tt))))

names_look_after : (i : Problem) (k : LookKind) → Names (look_after i k)
unfolding look_after edit_form pattern_form anywhere_form teacher curriculum_form known_name
names_look_after i look.Course = names_bind _ _ (names_course i) (λ c. tt)
names_look_after i look.Slot = names_bind _ _ (names_slot i) (λ s. tt)
names_look_after i look.Teacher = names_bind _ _ (names_word _ _) (λ h. tt)
names_look_after i look.Curriculum = names_bind _ _ (names_word _ _) (λ q. tt)
names_look_after i look.CourseCost = names_bind _ _ (names_course i) (λ c. tt)
names_look_after i look.Cost = tt
names_look_after i look.Price = names_bind _ _ (names_bind _ _ (names_word _ _) (λ k. names_edit_after i k)) (λ e. tt)
names_look_after i look.Missing = tt
names_look_after i look.Cheapest = names_bind _ _ (names_word _ _) (λ n. names_bind _ _ (names_bind _ _ (names_word _ _) (λ k. names_pattern_after i k)) (λ p. tt))
names_look_after i look.Slots = names_bind _ _ (names_bind _ _ (names_word _ _) (λ k. names_slot_pattern_after i k)) (λ p. tt)

names_call : (i : Problem) → Names (call_form i)
unfolding call_form call_after
names_call i = names_bind _ _ (names_word _ _) by
  where
    by : (k : CallKind) → Names (call_after i k)
    by (kind.Edit k) = names_bind _ _ (names_edit_after i k) (λ e. tt)
    by (kind.Look k) = names_bind _ _ (names_look_after i k) (λ l. tt)

names_fault_after : (i : Problem) (k : FaultKind) → Names (fault_after i k)
unfolding fault_after
names_fault_after i fault.NotPlaced = tt
names_fault_after i fault.SameSlot = tt
names_fault_after i fault.SameCourse = tt
names_fault_after i fault.AlreadyThere = tt
names_fault_after i fault.CourseFull = tt
names_fault_after i fault.Unavailable = tt
names_fault_after i fault.Barred = tt
names_fault_after i fault.Blocked = tt
names_fault_after i fault.Clash = names_bind _ _ (names_course i) (λ c. tt)
names_fault_after i fault.RoomTaken = names_bind _ _ (names_course i) (λ c. tt)

names_refusal_after : (i : Problem) (k : Option FaultKind) → Names (refusal_after i k)
unfolding refusal_after
names_refusal_after i None = tt
names_refusal_after i (Some k) = names_bind _ _ (names_fault_after i k) (λ f. tt)

names_offer_after : (i : Problem) (o : Option ℤ) → Names (offer_after i o)
unfolding offer_after refusal
names_offer_after i None = names_bind _ _ (names_word _ _) (λ k. names_refusal_after i k)
names_offer_after i (Some p) = names_bind _ _ (names_edit i) (λ e. tt)

names_offer : (i : Problem) → Names (offer_form i)
unfolding offer_form
names_offer i = names_bind _ _ (names_word _ _) (λ o. names_offer_after i o)

names_reply_after : (i : Problem) (k : ReplyKind) → Names (reply_after i k)
unfolding reply_after fault_form lectures count number lecture costs_form amount_form shortfalls shortfall_form priced_edits priced_form offers_form
names_reply_after i reply.Done = tt
names_reply_after i reply.Refused = names_bind _ _ (names_bind _ _ (names_word _ _) (λ k. names_fault_after i k)) (λ f. tt)
names_reply_after i reply.Lectures = names_bind _ _ (names_bind _ _ (names_word _ _) (λ n. names_list (lecture i) n (names_bind _ _ (names_course i) (λ c. names_bind _ _ (names_room i) (λ r. names_bind _ _ (names_slot i) (λ s. tt)))))) (λ ls. tt)
names_reply_after i reply.Costs = names_bind _ _ (names_bind _ _ (names_word _ _) (λ a. names_bind _ _ (names_word _ _) (λ b. names_bind _ _ (names_word _ _) (λ c. names_bind _ _ (names_word _ _) (λ d. tt))))) (λ c. tt)
names_reply_after i reply.Price = names_bind _ _ (names_word _ _) (λ p. tt)
names_reply_after i reply.Missing = names_bind _ _ (names_bind _ _ (names_word _ _) (λ n. names_list (shortfall_form i) n (names_bind _ _ (names_course i) (λ c. names_bind _ _ (names_word _ _) (λ m. tt))))) (λ xs. tt)
names_reply_after i reply.Edits = names_bind _ _ (names_bind _ _ (names_word _ _) (λ n. names_list (priced_form i) n (names_bind _ _ (names_word _ _) (λ p. names_bind _ _ (names_edit i) (λ e. tt))))) (λ xs. tt)
names_reply_after i reply.Slots = names_bind _ _ (names_bind _ _ (names_word _ _) (λ n. names_list (offer_form i) n (names_offer i))) (λ xs. tt)

names_asked : (i : Problem) → Names (asked_form i)
unfolding asked_form reply_form
names_asked i = names_bind _ _ (names_call i) (λ c. names_bind _ _ (names_bind _ _ (names_word _ _) (λ k. names_reply_after i k)) (λ r. tt))

names_entry : (i : Problem) → Names (entry_form i)
unfolding entry_form fixed count number
names_entry i = names_bind _ _ (names_word _ _) (λ start. names_bind _ _ (names_word _ _) (λ p. names_bind _ _ (names_word _ _) (λ n. names_bind _ _ (names_list (asked_form i) n (names_asked i)) (λ asked. tt))))

names_journal : (i : Problem) → Names (journal_form i)
unfolding journal_form fixed count number
names_journal i = names_bind _ _ (names_word _ _) (λ start. names_bind _ _ (names_word _ _) (λ n. names_bind _ _ (names_list (entry_form i) n (names_entry i)) (λ es. names_bind _ _ (names_word _ _) (λ end. tt))))

-- parsing words returns only faults that name words
of_word : (i : Problem) (ws : List (List ℕ)) (e : JournalFault) → journal_answer i ws ≡ Err e → IsOfWord e
of_word i ws e h = answer_faults IsOfWord missing_word (journal_form i) ws e (λ k. tt) (names_journal i) h

-- parsing returns entries if and only if the words spell them
pub reads_journals : (i : Problem) (ws : List (List ℕ)) (entries : List JournalEntry) → (journal_answer i ws ≡ Ok entries → JournalSpells i ws entries) × (JournalSpells i ws entries → journal_answer i ws ≡ Ok entries)
reads_journals i ws entries = (
  λ h. let r = answer_fills missing_word (journal_form i) ws entries h in record { front = r.0; rest = r.1; all = r.2; fills = r.3 },
  λ s. ap (λ q. journal_answer i q) s.all ∙ fills_answer missing_word (journal_form i) s.front s.rest entries s.fills,
)

-- a fault has its cause
has_cause : (i : Problem) (text : List ℕ) → IsUtf8 text → (e : JournalFault) → Fails journal_wants_memory e (journal_answer i (words text)) → IsJournalCauseOf i text e
has_cause i text utf8 (NotText n) h = absurd (of_word i (words text) (NotText n) h)
has_cause i text utf8 NoMemory h = tt
has_cause i text utf8 (Missing n) h = (utf8, answer_breaks missing_word (journal_form i) (words text) (Missing n) h)
has_cause i text utf8 (BadWord n) h = (utf8, answer_breaks missing_word (journal_form i) (words text) (BadWord n) h)

-- what is parsed as a call fits
pub call_fits : (i : Problem) → IsProblem i → (left after : Left) (call : Call) → parses (call_form i) left ≡ Ok (call, after) → CallFits i call
call_fits i is left after call h =
    let r = read_fills missing_word (call_form i) left.words left.next (call, after) h in
    yields_call i is r.front call r.fills

-- a fault other than that of the grammar is that memory ran out
fault_or_memory : (e : JournalFault) (x : Result (List JournalEntry) JournalFault) → Fails journal_wants_memory e x → (x ≡ Err e) ⊎ (e ≡ NoMemory)
fault_or_memory (NotText n) x h = inl h
fault_or_memory NoMemory x h = inr refl
fault_or_memory (Missing n) x h = inl h
fault_or_memory (BadWord n) x h = inl h

module _ (i : Problem) (text : List ℕ) where
  -- what a function that parses the text returns
  abbrev pub Returns : Result (Vec JournalEntry Global) JournalFault → Type 0
  Returns r = Gives journal_wants_memory (λ list. list.items) r (journal_answer i (words text))

  pub gives_spelled : (r : Result (Vec JournalEntry Global) JournalFault) → Returns r → IfOk r (λ list. JournalSpells i (words text) list.items)
  gives_spelled (Ok list) h = (reads_journals i (words text) list.items).0 h
  gives_spelled (Err e) h = tt

  -- what was parsed can be written
  pub gives_fits : IsProblem i → (r : Result (Vec JournalEntry Global) JournalFault) → Returns r → IfOk r (λ list. Each (EntryFits i) list.items)
  gives_fits is (Ok list) h =
      let s = (reads_journals i (words text) list.items).0 h in
      Each-map (CanBeWritten i) (EntryFits i) (λ e f. f.0) list.items (yields_journal i is s.front list.items s.fills).0
  gives_fits is (Err e) h = tt

  pub gives_short : IsProblem i → (r : Result (Vec JournalEntry Global) JournalFault) → Returns r → IfOk r (λ list. Each IsShort list.items)
  gives_short is (Ok list) h =
      let s = (reads_journals i (words text) list.items).0 h in
      Each-map (CanBeWritten i) IsShort (λ e f. f.1) list.items (yields_journal i is s.front list.items s.fills).0
  gives_short is (Err e) h = tt

  pub gives_few : IsProblem i → (r : Result (Vec JournalEntry Global) JournalFault) → Returns r → IfOk r (λ list. AreFew list.items)
  gives_few is (Ok list) h =
      let s = (reads_journals i (words text) list.items).0 h in
      (yields_journal i is s.front list.items s.fills).1
  gives_few is (Err e) h = tt

  pub gives_cause : IsUtf8 text → (r : Result (Vec JournalEntry Global) JournalFault) → Returns r → IfErr r (IsJournalCauseOf i text)
  gives_cause utf8 (Ok list) h = tt
  gives_cause utf8 (Err e) h = has_cause i text utf8 e h

  -- words that spell a journal fail only if memory runs out; others fail with the fault of the word
  -- that breaks the grammar, or if memory runs out
  refuses : (e : JournalFault) → Fails journal_wants_memory e (journal_answer i (words text)) → (t : List JournalEntry) → JournalSpells i (words text) t → e ≡ NoMemory
  refuses e h t s = ⊎_elim (λ met. ok_is_err (e ≡ NoMemory) t e (sym ((reads_journals i (words text) t).1 s) ∙ met)) (λ memory. memory) (fault_or_memory e (journal_answer i (words text)) h)

  breaks : {X : Type 0} (e : JournalFault) → Fails journal_wants_memory e (journal_answer i (words text)) → (k : ℕ) (fault : JournalFault) → JournalBreaksAt i (words text) k fault → ◌⊎◌ (◌≡◌ {A = Result X JournalFault} (Err e) (Err fault)) (◌≡◌ {A = Result X JournalFault} (Err e) (Err NoMemory))
  breaks e h k fault b = ⊎_elim
      (λ met. inl (ap (λ q. Err q) (err_same e fault (sym met ∙ breaks_answer missing_word (journal_form i) (words text) k fault b))))
      (λ memory. inr (ap (λ q. Err q) memory)) (fault_or_memory e (journal_answer i (words text)) h)

  pub gives_accepted : (r : Result (Vec JournalEntry Global) JournalFault) → Returns r → (t : List JournalEntry) → JournalSpells i (words text) t → MatchResult r (λ list. list.items ≡ t) (λ fault. fault ≡ NoMemory)
  gives_accepted (Ok list) h t s = ok_same {F = JournalFault} list.items t (sym h ∙ (reads_journals i (words text) t).1 s)
  gives_accepted (Err e) h t s = refuses e h t s

  pub gives_broken : (r : Result (Vec JournalEntry Global) JournalFault) → Returns r → (k : ℕ) (fault : JournalFault) → JournalBreaksAt i (words text) k fault → (r ≡ Err fault) ⊎ (r ≡ Err NoMemory)
  gives_broken (Ok list) h k fault b = ok_is_err _ list.items fault (sym h ∙ breaks_answer missing_word (journal_form i) (words text) k fault b)
  gives_broken (Err e) h k fault b = breaks e h k fault b
