-- The parsed solution, and the cause of each fault.
use Rattle.std.proofs.Common.{◌≡◌, ◌⊎◌, ℕ, List, Vec, Global, Bool, true, false, cond, Option, Some, None, Result, Ok, Err, IfOk, IfErr, MatchResult, inl, inr, ⊎_elim, refl, sym, ap, ◌∙◌}
use Rattle.std.specs.Prelude.{nat_lt}
use Rattle.std.specs.Str.{IsUtf8}
use Rattle.ctt_text.specs.declared.fault.SolutionFault.{SolutionFault}
use Rattle.ctt_text.specs.declared.fault.SolutionFault.TheVariants.{NotText, Cut, UnknownCourse, UnknownRoom, BadNumber, DayOut, PeriodOut, Repeated, NoMemory}
use Rattle.ctt_problem.specs.declared.placed.Placed.{Placed}
use Rattle.ctt_text.specs.Words.{words}
use Rattle.ctt_text.specs.Numbers.{is_number, value}
use Rattle.ctt_text.specs.Places.{one}
use Rattle.ctt_problem.specs.Problem.{Problem, IsProblem, slot_of}
use Rattle.ctt_problem.specs.Timetable.{has_lecture, IsTimetable}
use Rattle.ctt_text.specs.Reading.{Gives, Fails}
use Rattle.ctt_text.specs.SolutionPlaces.{lacks_memory, cut, free_slot, entry, begun, solution}
use Rattle.ctt_text.specs.SolutionText.{SolSpells, SolutionBreaksAt}
use Rattle.ctt_text.specs.SolutionLaws.{solution_answer, IsSolutionCauseOf}
use Rattle.ctt_problem.proofs.ResultLemmas.{ok_same, ok_is_err, err_same}
use Rattle.ctt_text.proofs.FaultLaws.{FormFaults, bind_faults, times_faults, known_name_faults, number_if_faults, taken_faults, test_faults, answer_faults}
use Rattle.ctt_text.proofs.SolutionLaws.{reads_solutions, solution_fails_where_broken, spelled_is_timetable}

-- a fault of a place, which carries the number of a word
abbrev IsOfWord : SolutionFault → Type 0
IsOfWord (NotText byte) = ⊥
IsOfWord NoMemory = ⊥
IsOfWord fault = Unit {0}

period_faults : (a b c : Bool) (broken : ℕ → SolutionFault) → cond {A = Option (ℕ → SolutionFault)} a (cond b (cond c (Some Repeated) None) (Some PeriodOut)) (Some BadNumber) ≡ Some broken → (k : ℕ) → IsOfWord (broken k)
period_faults true true c broken e k = taken_faults IsOfWord c Repeated broken (λ k. tt) e k
period_faults true false c broken e k = test_faults IsOfWord false PeriodOut broken (λ k. tt) e k
period_faults false b c broken e k = test_faults IsOfWord false BadNumber broken (λ k. tt) e k

slot_faults : (i : Problem) (so_far : List Placed) (course day : ℕ) → FormFaults IsOfWord (free_slot i so_far course day)
unfolding free_slot one
slot_faults i so_far course day = (λ word broken e k. period_faults (is_number word) (nat_lt (value word) i.periods) (has_lecture course (slot_of i day (value word)) so_far) broken e k, λ word. tt)

entry_faults : (i : Problem) (so_far : List Placed) → FormFaults IsOfWord (entry i so_far)
unfolding entry
entry_faults i so_far =
    bind_faults IsOfWord _ _ (known_name_faults IsOfWord UnknownCourse i.course_names (λ k. tt)) (λ course.
    bind_faults IsOfWord _ _ (known_name_faults IsOfWord UnknownRoom i.room_names (λ k. tt)) (λ room.
    bind_faults IsOfWord _ _ (number_if_faults IsOfWord BadNumber DayOut _ (λ k. tt) (λ k. tt)) (λ day.
    bind_faults IsOfWord _ _ (slot_faults i so_far course day) (λ slot. tt))))

-- parsing gives only faults of places
of_word : (i : Problem) (ws : List (List ℕ)) (e : SolutionFault) → solution_answer i ws ≡ Err e → IsOfWord e
of_word i ws e h = answer_faults IsOfWord cut (solution i ws) ws e (λ k. tt) (times_faults IsOfWord (entry i) (entry_faults i) (begun ws) _) h

-- a fault has its cause
has_cause : (i : Problem) (text : List ℕ) → IsUtf8 text → (e : SolutionFault) → Fails lacks_memory e (solution_answer i (words text)) → IsSolutionCauseOf i text e
has_cause i text utf8 (NotText n) h = absurd (of_word i (words text) (NotText n) h)
has_cause i text utf8 NoMemory h = tt
has_cause i text utf8 (Cut n) h = (utf8, (solution_fails_where_broken i (words text) (Cut n)).0 h)
has_cause i text utf8 (UnknownCourse n) h = (utf8, (solution_fails_where_broken i (words text) (UnknownCourse n)).0 h)
has_cause i text utf8 (UnknownRoom n) h = (utf8, (solution_fails_where_broken i (words text) (UnknownRoom n)).0 h)
has_cause i text utf8 (BadNumber n) h = (utf8, (solution_fails_where_broken i (words text) (BadNumber n)).0 h)
has_cause i text utf8 (DayOut n) h = (utf8, (solution_fails_where_broken i (words text) (DayOut n)).0 h)
has_cause i text utf8 (PeriodOut n) h = (utf8, (solution_fails_where_broken i (words text) (PeriodOut n)).0 h)
has_cause i text utf8 (Repeated n) h = (utf8, (solution_fails_where_broken i (words text) (Repeated n)).0 h)

-- a fault that is not the one that parsing gives is that memory ran out
fault_or_memory : (e : SolutionFault) (x : Result (List Placed) SolutionFault) → Fails lacks_memory e x → (x ≡ Err e) ⊎ (e ≡ NoMemory)
fault_or_memory (NotText n) x h = inl h
fault_or_memory NoMemory x h = inr refl
fault_or_memory (Cut n) x h = inl h
fault_or_memory (UnknownCourse n) x h = inl h
fault_or_memory (UnknownRoom n) x h = inl h
fault_or_memory (BadNumber n) x h = inl h
fault_or_memory (DayOut n) x h = inl h
fault_or_memory (PeriodOut n) x h = inl h
fault_or_memory (Repeated n) x h = inl h

module _ (i : Problem) (text : List ℕ) where
  -- the result of the function that parses the text
  abbrev Returns : Result (Vec Placed Global) SolutionFault → Type 0
  Returns r = Gives lacks_memory (λ list. list.items) r (solution_answer i (words text))

  pub gives_spelled : (r : Result (Vec Placed Global) SolutionFault) → Returns r → IfOk r (λ list. SolSpells i (words text) list.items)
  gives_spelled (Ok list) h = (reads_solutions i (words text) list.items).0 h
  gives_spelled (Err e) h = tt

  pub gives_timetable : IsProblem i → (r : Result (Vec Placed Global) SolutionFault) → Returns r → IfOk r (λ list. IsTimetable i list.items)
  gives_timetable is (Ok list) h = spelled_is_timetable i (words text) list.items is ((reads_solutions i (words text) list.items).0 h)
  gives_timetable is (Err e) h = tt

  pub gives_cause : IsUtf8 text → (r : Result (Vec Placed Global) SolutionFault) → Returns r → IfErr r (IsSolutionCauseOf i text)
  gives_cause utf8 (Ok list) h = tt
  gives_cause utf8 (Err e) h = has_cause i text utf8 e h

  pub gives_accepted : (r : Result (Vec Placed Global) SolutionFault) → Returns r → (t : List Placed) → SolSpells i (words text) t → MatchResult r (λ list. list.items ≡ t) (λ fault. fault ≡ NoMemory)
  gives_accepted (Ok list) h t s = ok_same {F = SolutionFault} list.items t (sym h ∙ (reads_solutions i (words text) t).1 s)
  gives_accepted (Err e) h t s = ⊎_elim (λ met. ok_is_err (e ≡ NoMemory) t e (sym ((reads_solutions i (words text) t).1 s) ∙ met)) (λ memory. memory) (fault_or_memory e (solution_answer i (words text)) h)

  pub gives_broken : (r : Result (Vec Placed Global) SolutionFault) → Returns r → (k : ℕ) (fault : SolutionFault) → SolutionBreaksAt i (words text) k fault → (r ≡ Err fault) ⊎ (r ≡ Err NoMemory)
  gives_broken (Ok list) h k fault b = ok_is_err _ list.items fault (sym h ∙ (solution_fails_where_broken i (words text) fault).1 k b)
  gives_broken (Err e) h k fault b = ⊎_elim
      (λ met. inl (ap (λ q. Err q) (err_same e fault (sym met ∙ (solution_fails_where_broken i (words text) fault).1 k b))))
      (λ memory. inr (ap (λ q. Err q) memory)) (fault_or_memory e (solution_answer i (words text)) h)
