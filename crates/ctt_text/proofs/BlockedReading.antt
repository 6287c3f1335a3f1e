-- The parsed closures, and the cause of each fault.
use Rattle.std.proofs.Common.{◌≡◌, ◌⊎◌, ℕ, List, Bool, Result, Ok, Err, inl, inr, ⊎_elim, refl, sym, ap, ◌∙◌}
use Rattle.std.specs.Prelude.{codes}
use Rattle.std.specs.Str.{IsUtf8}
use Rattle.ctt_text.specs.declared.fault.BlockedFault.{BlockedFault}
use Rattle.ctt_text.specs.declared.fault.BlockedFault.TheVariants.{NotText, Missing, Expected, BadNumber, TooLarge, UnknownName, DayOut, PeriodOut, NoMemory}
use Rattle.ctt_text.specs.Words.{words}
use Rattle.ctt_problem.specs.Problem.{Problem}
use Rattle.ctt_text.specs.Reading.{Fails}
use Rattle.ctt_text.specs.BlockedPlaces.{Closures, wants_memory, ends_early, kind_of, closing, blocked_entry, closures}
use Rattle.ctt_text.specs.BlockedText.{BlockSpells, BlockBreaksAt}
use Rattle.ctt_text.specs.BlockedLaws.{blocked_answer, IsBlockedCauseOf}
use Rattle.ctt_problem.proofs.ResultLemmas.{ok_same, ok_is_err, err_same}
use Rattle.ctt_text.proofs.FaultLaws.{FormFaults, bind_faults, known_faults, known_name_faults, choice_if_faults, side_file_faults, answer_faults}
use Rattle.ctt_text.proofs.BlockedLaws.{reads_blocked, blocked_fails_where_broken}

-- a fault of a place, which carries the number of a word
abbrev IsOfWord : BlockedFault → Type 0
IsOfWord (NotText byte) = ⊥
IsOfWord NoMemory = ⊥
IsOfWord fault = Unit {0}

entry_faults : (i : Problem) (so_far : Closures) → FormFaults IsOfWord (blocked_entry i so_far)
unfolding blocked_entry closing
entry_faults i so_far =
    bind_faults IsOfWord _ _ (bind_faults IsOfWord _ _ (known_faults IsOfWord Expected kind_of _ (λ k. tt)) (λ kind.
    bind_faults IsOfWord _ _ (known_name_faults IsOfWord UnknownName _ (λ k. tt)) (λ number.
    bind_faults IsOfWord _ _ (choice_if_faults IsOfWord BadNumber DayOut _ (λ k. tt) (λ k. tt)) (λ day.
    bind_faults IsOfWord _ _ (choice_if_faults IsOfWord BadNumber PeriodOut _ (λ k. tt) (λ k. tt)) (λ period. tt))))) (λ e. tt)

all_faults : (i : Problem) → FormFaults IsOfWord (closures i)
unfolding closures
all_faults i = side_file_faults IsOfWord Expected BadNumber TooLarge (codes "Blocked:") (blocked_entry i) _ (λ k. tt) (λ k. tt) (λ k. tt) (entry_faults i)

-- parsing gives only faults of places
of_word : (i : Problem) (ws : List (List ℕ)) (e : BlockedFault) → blocked_answer i ws ≡ Err e → IsOfWord e
of_word i ws e h = answer_faults IsOfWord ends_early (closures i) ws e (λ k. tt) (all_faults i) h

-- a fault has its cause
has_cause : (i : Problem) (text : List ℕ) → IsUtf8 text → (e : BlockedFault) → Fails wants_memory e (blocked_answer i (words text)) → IsBlockedCauseOf i text e
has_cause i text utf8 (NotText n) h = absurd (of_word i (words text) (NotText n) h)
has_cause i text utf8 NoMemory h = tt
has_cause i text utf8 (Missing n) h = (utf8, (blocked_fails_where_broken i (words text) (Missing n)).0 h)
has_cause i text utf8 (Expected n) h = (utf8, (blocked_fails_where_broken i (words text) (Expected n)).0 h)
has_cause i text utf8 (BadNumber n) h = (utf8, (blocked_fails_where_broken i (words text) (BadNumber n)).0 h)
has_cause i text utf8 (TooLarge n) h = (utf8, (blocked_fails_where_broken i (words text) (TooLarge n)).0 h)
has_cause i text utf8 (UnknownName n) h = (utf8, (blocked_fails_where_broken i (words text) (UnknownName n)).0 h)
has_cause i text utf8 (DayOut n) h = (utf8, (blocked_fails_where_broken i (words text) (DayOut n)).0 h)
has_cause i text utf8 (PeriodOut n) h = (utf8, (blocked_fails_where_broken i (words text) (PeriodOut n)).0 h)

-- a fault that is not the one that parsing gives is that memory ran out
fault_or_memory : (e : BlockedFault) (x : Result Closures BlockedFault) → Fails wants_memory e x → (x ≡ Err e) ⊎ (e ≡ NoMemory)
fault_or_memory (NotText n) x h = inl h
fault_or_memory NoMemory x h = inr refl
fault_or_memory (Missing n) x h = inl h
fault_or_memory (Expected n) x h = inl h
fault_or_memory (BadNumber n) x h = inl h
fault_or_memory (TooLarge n) x h = inl h
fault_or_memory (UnknownName n) x h = inl h
fault_or_memory (DayOut n) x h = inl h
fault_or_memory (PeriodOut n) x h = inl h

-- one of the two is the answer
pub err_either : (e fault : BlockedFault) → (e ≡ fault) ⊎ (e ≡ NoMemory) → (◌≡◌ {A = Result (Unit {0}) BlockedFault} (Err e) (Err fault)) ⊎ (◌≡◌ {A = Result (Unit {0}) BlockedFault} (Err e) (Err NoMemory))
err_either e fault (inl same) = inl (ap (λ q. Err q) same)
err_either e fault (inr memory) = inr (ap (λ q. Err q) memory)

module _ (i : Problem) (text : List ℕ) where
  -- tables that were parsed
  pub ok_spelled : (t : Closures) → blocked_answer i (words text) ≡ Ok t → BlockSpells i (words text) t.closed t.blocked
  ok_spelled t h = (reads_blocked i (words text) t.closed t.blocked).0 h

  pub ok_accepted : (t : Closures) (closed blocked : List Bool) → blocked_answer i (words text) ≡ Ok t → BlockSpells i (words text) closed blocked → t ≡ record { closed = closed; blocked = blocked }
  ok_accepted t closed blocked h s = ok_same {F = BlockedFault} t (record { closed = closed; blocked = blocked }) (sym h ∙ (reads_blocked i (words text) closed blocked).1 s)

  pub ok_unbroken : (C : Type 0) (t : Closures) → blocked_answer i (words text) ≡ Ok t → (k : ℕ) (fault : BlockedFault) → BlockBreaksAt i (words text) k fault → C
  ok_unbroken C t h k fault b = ok_is_err C t fault (sym h ∙ (blocked_fails_where_broken i (words text) fault).1 k b)

  module _ (e : BlockedFault) (h : Fails wants_memory e (blocked_answer i (words text))) where
    -- a fault that was met
    pub err_cause : IsUtf8 text → IsBlockedCauseOf i text e
    err_cause utf8 = has_cause i text utf8 e h

    pub err_accepted : (closed blocked : List Bool) → BlockSpells i (words text) closed blocked → e ≡ NoMemory
    err_accepted closed blocked s = ⊎_elim (λ met. ok_is_err (e ≡ NoMemory) (record { closed = closed; blocked = blocked }) e (sym ((reads_blocked i (words text) closed blocked).1 s) ∙ met)) (λ memory. memory) (fault_or_memory e (blocked_answer i (words text)) h)

    pub err_broken : (k : ℕ) (fault : BlockedFault) → BlockBreaksAt i (words text) k fault → (e ≡ fault) ⊎ (e ≡ NoMemory)
    err_broken k fault b = ⊎_elim (λ met. inl (err_same e fault (sym met ∙ (blocked_fails_where_broken i (words text) fault).1 k b))) (λ memory. inr memory) (fault_or_memory e (blocked_answer i (words text)) h)
