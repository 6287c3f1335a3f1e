-- The parsed sections, and the instance that is made of them.
use Rattle.std.proofs.Common.{◌≡◌, ◌⊎◌, ℕ, List, Result, Ok, Err, IfOk, IfErr, inl, inr, refl, sym, ◌∙◌}
use Rattle.std.specs.Str.{IsUtf8}
use Rattle.ctt_text.specs.declared.fault.ReadFault.{ReadFault}
use Rattle.ctt_text.specs.declared.fault.ReadFault.TheVariants.{NotText, Missing, Expected, BadNumber, TooLarge, RepeatedName, UnknownCourse, DayOut, PeriodOut, NoMemory}
use Rattle.ctt_text.specs.Words.{words}
use Rattle.ctt_problem.specs.Problem.{Problem}
use Rattle.ctt_text.specs.Reading.{Gives, Fails}
use Rattle.ctt_text.specs.InstancePlaces.{wants_memory, missing, instance}
use Rattle.ctt_text.specs.InstanceText.{Spells, InstanceBreaksAt}
use Rattle.ctt_text.specs.InstanceLaws.{answer, IsCauseOf}
use Rattle.ctt_text.proofs.FaultLaws.{answer_faults}
use Rattle.ctt_text.proofs.InstanceLaws.{reads_what_is_spelled, fails_where_broken}
use Rattle.ctt_text.proofs.InstanceFaults.{IsOfWord, instance_faults}

-- parsing gives only faults of places
of_word : (ws : List (List ℕ)) (e : ReadFault) → answer ws ≡ Err e → IsOfWord e
of_word ws e h = answer_faults IsOfWord missing instance ws e (λ k. tt) instance_faults h

-- a fault has its cause
pub has_cause : (text : List ℕ) → IsUtf8 text → (e : ReadFault) → Fails wants_memory e (answer (words text)) → IsCauseOf text e
has_cause text utf8 (NotText n) h = absurd (of_word (words text) (NotText n) h)
has_cause text utf8 NoMemory h = tt
has_cause text utf8 (Missing n) h = (utf8, (fails_where_broken (words text) (Missing n)).0 h)
has_cause text utf8 (Expected n) h = (utf8, (fails_where_broken (words text) (Expected n)).0 h)
has_cause text utf8 (BadNumber n) h = (utf8, (fails_where_broken (words text) (BadNumber n)).0 h)
has_cause text utf8 (TooLarge n) h = (utf8, (fails_where_broken (words text) (TooLarge n)).0 h)
has_cause text utf8 (RepeatedName n) h = (utf8, (fails_where_broken (words text) (RepeatedName n)).0 h)
has_cause text utf8 (UnknownCourse n) h = (utf8, (fails_where_broken (words text) (UnknownCourse n)).0 h)
has_cause text utf8 (DayOut n) h = (utf8, (fails_where_broken (words text) (DayOut n)).0 h)
has_cause text utf8 (PeriodOut n) h = (utf8, (fails_where_broken (words text) (PeriodOut n)).0 h)

pub gives_cause : (text : List ℕ) → IsUtf8 text → (r : Result Problem ReadFault) → Gives wants_memory (λ i. i) r (answer (words text)) → IfErr r (IsCauseOf text)
gives_cause text utf8 (Ok i) h = tt
gives_cause text utf8 (Err e) h = has_cause text utf8 e h

pub gives_spelled : (text : List ℕ) (r : Result Problem ReadFault) → Gives wants_memory (λ i. i) r (answer (words text)) → IfOk r (λ i. Spells (words text) i)
gives_spelled text (Ok i) h = (reads_what_is_spelled (words text) i).0 h
gives_spelled text (Err e) h = tt

-- a fault is the result of parsing, unless memory ran out
only_memory : (e : ReadFault) (x y : Result Problem ReadFault) → Fails wants_memory e x → x ≡ y → (◌≡◌ {A = Result Problem ReadFault} (Err e) y) ⊎ (◌≡◌ {A = Result Problem ReadFault} (Err e) (Err NoMemory))
only_memory (NotText n) x y h k = inl (sym h ∙ k)
only_memory NoMemory x y h k = inr refl
only_memory (Missing n) x y h k = inl (sym h ∙ k)
only_memory (Expected n) x y h k = inl (sym h ∙ k)
only_memory (BadNumber n) x y h k = inl (sym h ∙ k)
only_memory (TooLarge n) x y h k = inl (sym h ∙ k)
only_memory (RepeatedName n) x y h k = inl (sym h ∙ k)
only_memory (UnknownCourse n) x y h k = inl (sym h ∙ k)
only_memory (DayOut n) x y h k = inl (sym h ∙ k)
only_memory (PeriodOut n) x y h k = inl (sym h ∙ k)

gives_or_memory : (r x y : Result Problem ReadFault) → Gives wants_memory (λ i. i) r x → x ≡ y → (r ≡ y) ⊎ (r ≡ Err NoMemory)
gives_or_memory (Ok i) x y h k = inl (sym h ∙ k)
gives_or_memory (Err e) x y h k = only_memory e x y h k

pub gives_accepted : (text : List ℕ) (r : Result Problem ReadFault) → Gives wants_memory (λ i. i) r (answer (words text)) → (i : Problem) → Spells (words text) i → (r ≡ Ok i) ⊎ (r ≡ Err NoMemory)
gives_accepted text r h i s = gives_or_memory r (answer (words text)) (Ok i) h ((reads_what_is_spelled (words text) i).1 s)

pub gives_broken : (text : List ℕ) (r : Result Problem ReadFault) → Gives wants_memory (λ i. i) r (answer (words text)) → (k : ℕ) (fault : ReadFault) → InstanceBreaksAt (words text) k fault → (r ≡ Err fault) ⊎ (r ≡ Err NoMemory)
gives_broken text r h k fault b = gives_or_memory r (answer (words text)) (Err fault) h ((fails_where_broken (words text) fault).1 k b)
