-- The parsed table of barred rooms, and the cause of each fault.
use Rattle.std.proofs.Common.{◌≡◌, ◌⊎◌, ℕ, List, Bool, Result, Ok, Err, inl, inr, ⊎_elim, refl, sym, ap, ◌∙◌}
use Rattle.std.specs.Prelude.{codes}
use Rattle.std.specs.Str.{IsUtf8}
use Rattle.ctt_text.specs.declared.fault.BarredFault.{BarredFault}
use Rattle.ctt_text.specs.declared.fault.BarredFault.TheVariants.{NotText, Missing, Expected, BadNumber, TooLarge, UnknownCourse, UnknownRoom, NoMemory}
use Rattle.ctt_text.specs.Words.{words}
use Rattle.ctt_problem.specs.Problem.{Problem, IsProblem}
use Rattle.ctt_text.specs.Reading.{Fails}
use Rattle.ctt_text.specs.BarredPlaces.{wants_memory, ends_early, barred_pair, barred_rooms}
use Rattle.ctt_text.specs.BarredText.{BarSpells, BarBreaksAt}
use Rattle.ctt_text.specs.BarredLaws.{barred_answer, IsBarredCauseOf}
use Rattle.ctt_problem.proofs.ResultLemmas.{ok_same, ok_is_err, err_same}
use Rattle.ctt_text.proofs.FaultLaws.{FormFaults, bind_faults, known_name_faults, side_file_faults, answer_faults}
use Rattle.ctt_text.proofs.BarredLaws.{reads_barred, barred_fails_where_broken}

-- a fault of a place, which carries the number of a word
abbrev IsOfWord : BarredFault → Type 0
IsOfWord (NotText byte) = ⊥
IsOfWord NoMemory = ⊥
IsOfWord fault = Unit {0}

pair_faults : (i : Problem) (so_far : List Bool) → FormFaults IsOfWord (barred_pair i so_far)
unfolding barred_pair
pair_faults i so_far =
    bind_faults IsOfWord _ _ (known_name_faults IsOfWord UnknownCourse i.course_names (λ k. tt)) (λ course.
    bind_faults IsOfWord _ _ (known_name_faults IsOfWord UnknownRoom i.room_names (λ k. tt)) (λ room. tt))

all_faults : (i : Problem) → FormFaults IsOfWord (barred_rooms i)
unfolding barred_rooms
all_faults i = side_file_faults IsOfWord Expected BadNumber TooLarge (codes "Barred:") (barred_pair i) _ (λ k. tt) (λ k. tt) (λ k. tt) (pair_faults i)

-- parsing gives only faults of places
of_word : (i : Problem) (ws : List (List ℕ)) (e : BarredFault) → barred_answer i ws ≡ Err e → IsOfWord e
of_word i ws e h = answer_faults IsOfWord ends_early (barred_rooms i) ws e (λ k. tt) (all_faults i) h

-- a fault has its cause
has_cause : (i : Problem) (text : List ℕ) → IsUtf8 text → (e : BarredFault) → Fails wants_memory e (barred_answer i (words text)) → IsBarredCauseOf i text e
has_cause i text utf8 (NotText n) h = absurd (of_word i (words text) (NotText n) h)
has_cause i text utf8 NoMemory h = tt
has_cause i text utf8 (Missing n) h = (utf8, (barred_fails_where_broken i (words text) (Missing n)).0 h)
has_cause i text utf8 (Expected n) h = (utf8, (barred_fails_where_broken i (words text) (Expected n)).0 h)
has_cause i text utf8 (BadNumber n) h = (utf8, (barred_fails_where_broken i (words text) (BadNumber n)).0 h)
has_cause i text utf8 (TooLarge n) h = (utf8, (barred_fails_where_broken i (words text) (TooLarge n)).0 h)
has_cause i text utf8 (UnknownCourse n) h = (utf8, (barred_fails_where_broken i (words text) (UnknownCourse n)).0 h)
has_cause i text utf8 (UnknownRoom n) h = (utf8, (barred_fails_where_broken i (words text) (UnknownRoom n)).0 h)

-- a fault that is not the one that parsing gives is that memory ran out
fault_or_memory : (e : BarredFault) (x : Result (List Bool) BarredFault) → Fails wants_memory e x → (x ≡ Err e) ⊎ (e ≡ NoMemory)
fault_or_memory (NotText n) x h = inl h
fault_or_memory NoMemory x h = inr refl
fault_or_memory (Missing n) x h = inl h
fault_or_memory (Expected n) x h = inl h
fault_or_memory (BadNumber n) x h = inl h
fault_or_memory (TooLarge n) x h = inl h
fault_or_memory (UnknownCourse n) x h = inl h
fault_or_memory (UnknownRoom n) x h = inl h

-- one of the two is the answer
pub err_either : (e fault : BarredFault) → (e ≡ fault) ⊎ (e ≡ NoMemory) → (◌≡◌ {A = Result (Unit {0}) BarredFault} (Err e) (Err fault)) ⊎ (◌≡◌ {A = Result (Unit {0}) BarredFault} (Err e) (Err NoMemory))
err_either e fault (inl same) = inl (ap (λ q. Err q) same)
err_either e fault (inr memory) = inr (ap (λ q. Err q) memory)

module _ (i : Problem) (text : List ℕ) where
  -- a table that was parsed
  pub ok_spelled : IsProblem i → (t : List Bool) → barred_answer i (words text) ≡ Ok t → BarSpells i (words text) t
  ok_spelled is t h = (reads_barred i (words text) t is).0 h

  pub ok_accepted : IsProblem i → (t u : List Bool) → barred_answer i (words text) ≡ Ok t → BarSpells i (words text) u → t ≡ u
  ok_accepted is t u h s = ok_same {F = BarredFault} t u (sym h ∙ (reads_barred i (words text) u is).1 s)

  pub ok_unbroken : (C : Type 0) (t : List Bool) → barred_answer i (words text) ≡ Ok t → (k : ℕ) (fault : BarredFault) → BarBreaksAt i (words text) k fault → C
  ok_unbroken C t h k fault b = ok_is_err C t fault (sym h ∙ (barred_fails_where_broken i (words text) fault).1 k b)

  module _ (e : BarredFault) (h : Fails wants_memory e (barred_answer i (words text))) where
    -- a fault that was met
    pub err_cause : IsUtf8 text → IsBarredCauseOf i text e
    err_cause utf8 = has_cause i text utf8 e h

    pub err_accepted : IsProblem i → (t : List Bool) → BarSpells i (words text) t → e ≡ NoMemory
    err_accepted is t s = ⊎_elim (λ met. ok_is_err (e ≡ NoMemory) t e (sym ((reads_barred i (words text) t is).1 s) ∙ met)) (λ memory. memory) (fault_or_memory e (barred_answer i (words text)) h)

    pub err_broken : (k : ℕ) (fault : BarredFault) → BarBreaksAt i (words text) k fault → (e ≡ fault) ⊎ (e ≡ NoMemory)
    err_broken k fault b = ⊎_elim (λ met. inl (err_same e fault (sym met ∙ (barred_fails_where_broken i (words text) fault).1 k b))) (λ memory. inr memory) (fault_or_memory e (barred_answer i (words text)) h)
