-- The laws of the text of barred rooms: words spell a table, or break the form at one place.
use Rattle.std.specs.Prelude.{◌≡◌, ◌⊎◌, ℕ, List, Bool, Result, Ok, Err}
use Rattle.std.specs.Str.{IsUtf8}
use Rattle.std.specs.Str.Lossy.{utf8_valid_len}
use Rattle.ctt_text.specs.declared.fault.BarredFault.{BarredFault}
use Rattle.ctt_text.specs.declared.fault.BarredFault.TheVariants.{NotText, NoMemory}
use Rattle.ctt_text.specs.Words.{words}
use Rattle.ctt_text.specs.Forms.{read, without_rest}
use Rattle.ctt_problem.specs.Problem.{Problem, IsProblem}
use Rattle.ctt_text.specs.BarredPlaces.{barred_rooms, ends_early}
use Rattle.ctt_text.specs.BarredText.{BarSpells, BarBreaksAt}

-- the result of parsing the words
abbrev pub barred_answer : Problem → List (List ℕ) → Result (List Bool) BarredFault
barred_answer i words = without_rest (read ends_early (barred_rooms i) words 1)

-- The cause of a fault in a text: NotText carries the length of the longest valid UTF-8 prefix,
-- NoMemory can occur at any time, and any other fault is that of the place where the words break
-- the form.
abbrev pub IsBarredCauseOf : Problem → List ℕ → BarredFault → Type 0
IsBarredCauseOf i text (NotText byte) = ¬ IsUtf8 text × (byte ≡ utf8_valid_len text)
IsBarredCauseOf i text NoMemory = Unit {0}
IsBarredCauseOf i text fault = IsUtf8 text × ((k : ℕ) × BarBreaksAt i (words text) k fault)

-- Parsing returns a table if and only if the words spell it.
abbrev pub ReadsBarred : Type 0
ReadsBarred = (i : Problem) (words : List (List ℕ)) (table : List Bool) → IsProblem i → (barred_answer i words ≡ Ok table → BarSpells i words table) × (BarSpells i words table → barred_answer i words ≡ Ok table)

-- Words spell at most one table.
abbrev pub SpellsOneBarred : Type 0
SpellsOneBarred = (i : Problem) (words : List (List ℕ)) (table other : List Bool) → IsProblem i → BarSpells i words table → BarSpells i words other → table ≡ other

-- Parsing fails with a fault if and only if the words break the form at some place with that fault.
abbrev pub BarredFailsWhereBroken : Type 0
BarredFailsWhereBroken = (i : Problem) (words : List (List ℕ)) (fault : BarredFault)
    → (barred_answer i words ≡ Err fault → (k : ℕ) × BarBreaksAt i words k fault) × ((k : ℕ) → BarBreaksAt i words k fault → barred_answer i words ≡ Err fault)

-- Words break the form at most at one place, with one fault.
abbrev pub BarredBreaksOnce : Type 0
BarredBreaksOnce = (i : Problem) (words : List (List ℕ)) (k k' : ℕ) (fault fault' : BarredFault) → BarBreaksAt i words k fault → BarBreaksAt i words k' fault' → (k ≡ k') × (fault ≡ fault')

-- Words either spell a table or break the form, and never both.
abbrev pub BarredSpellsOrBreaks : Type 0
BarredSpellsOrBreaks = (i : Problem) (words : List (List ℕ)) → IsProblem i → (((table : List Bool) × BarSpells i words table) ⊎ ((k : ℕ) × (fault : BarredFault) × BarBreaksAt i words k fault))
    × ((table : List Bool) (k : ℕ) (fault : BarredFault) → BarSpells i words table → BarBreaksAt i words k fault → ⊥)
