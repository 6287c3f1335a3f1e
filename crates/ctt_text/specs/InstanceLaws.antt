-- The laws of the text of an instance: words spell an instance, or break the form at one place.
use Rattle.std.specs.Prelude.{◌≡◌, ◌⊎◌, ℕ, List, Result, Ok, Err}
use Rattle.ctt_text.specs.declared.fault.ReadFault.{ReadFault}
use Rattle.ctt_text.specs.declared.fault.ReadFault.TheVariants.{NotText, NoMemory}
use Rattle.std.specs.Str.{IsUtf8}
use Rattle.std.specs.Str.Lossy.{utf8_valid_len}
use Rattle.ctt_text.specs.Words.{words}
use Rattle.ctt_text.specs.Forms.{read, without_rest}
use Rattle.ctt_problem.specs.Problem.{Problem, IsProblem}
use Rattle.ctt_text.specs.InstancePlaces.{instance, missing}
use Rattle.ctt_text.specs.InstanceText.{Spells, InstanceBreaksAt}
use Rattle.ctt_problem.specs.Named.{IsNamed}

-- the result of parsing the words
abbrev pub answer : List (List ℕ) → Result Problem ReadFault
answer words = without_rest (read missing instance words 1)

-- The cause of a fault in a text: NotText carries the length of the longest valid UTF-8 prefix,
-- NoMemory can occur at any time, and any other fault is that of the place where the words break
-- the form.
abbrev pub IsCauseOf : List ℕ → ReadFault → Type 0
IsCauseOf text (NotText byte) = ¬ IsUtf8 text × (byte ≡ utf8_valid_len text)
IsCauseOf text NoMemory = Unit {0}
IsCauseOf text fault = IsUtf8 text × ((k : ℕ) × InstanceBreaksAt (words text) k fault)

-- Parsing returns an instance if and only if the words spell it.
abbrev pub ReadsWhatIsSpelled : Type 0
ReadsWhatIsSpelled = (words : List (List ℕ)) (i : Problem) → (answer words ≡ Ok i → Spells words i) × (Spells words i → answer words ≡ Ok i)

-- Words spell at most one instance.
abbrev pub SpellsOne : Type 0
SpellsOne = (words : List (List ℕ)) (i j : Problem) → Spells words i → Spells words j → i ≡ j

-- Parsing fails with a fault if and only if the words break the form at some place with that fault.
abbrev pub FailsWhereBroken : Type 0
FailsWhereBroken = (words : List (List ℕ)) (fault : ReadFault)
    → (answer words ≡ Err fault → (k : ℕ) × InstanceBreaksAt words k fault) × ((k : ℕ) → InstanceBreaksAt words k fault → answer words ≡ Err fault)

-- Words break the form at most at one place, with one fault.
abbrev pub BreaksOnce : Type 0
BreaksOnce = (words : List (List ℕ)) (k k' : ℕ) (fault fault' : ReadFault) → InstanceBreaksAt words k fault → InstanceBreaksAt words k' fault' → (k ≡ k') × (fault ≡ fault')

-- Words either spell an instance or break the form, and never both.
abbrev pub SpellsOrBreaks : Type 0
SpellsOrBreaks = (words : List (List ℕ)) → (((i : Problem) × Spells words i) ⊎ ((k : ℕ) × (fault : ReadFault) × InstanceBreaksAt words k fault))
    × ((i : Problem) (k : ℕ) (fault : ReadFault) → Spells words i → InstanceBreaksAt words k fault → ⊥)

-- An instance that words spell is within the limits, with its references in range.
abbrev pub SpelledIsProblem : Type 0
SpelledIsProblem = (words : List (List ℕ)) (i : Problem) → Spells words i → IsProblem i

-- The names of an instance that a text spells are words, distinct within each list.
abbrev pub SpelledIsNamed : Type 0
SpelledIsNamed = (text : List ℕ) (i : Problem) → Spells (words text) i → IsNamed i
