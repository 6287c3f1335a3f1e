-- The laws of the text of closures: words spell what is closed, or break the form at one place.
use Rattle.std.specs.Prelude.{◌≡◌, ◌⊎◌, ℕ, List, Bool, Result, Ok, Err}
use Rattle.std.specs.Str.{IsUtf8}
use Rattle.std.specs.Str.Lossy.{utf8_valid_len}
use Rattle.ctt_text.specs.declared.fault.BlockedFault.{BlockedFault}
use Rattle.ctt_text.specs.declared.fault.BlockedFault.TheVariants.{NotText, NoMemory}
use Rattle.ctt_text.specs.Words.{words}
use Rattle.ctt_text.specs.Forms.{read, without_rest}
use Rattle.ctt_problem.specs.Problem.{Problem}
use Rattle.ctt_text.specs.BlockedPlaces.{Closures, closures, ends_early}
use Rattle.ctt_text.specs.BlockedText.{BlockSpells, BlockBreaksAt}

-- the result of parsing the words
abbrev pub blocked_answer : Problem → List (List ℕ) → Result Closures BlockedFault
blocked_answer i words = without_rest (read ends_early (closures i) words 1)

-- The cause of a fault in a text: NotText carries the length of the longest valid UTF-8 prefix,
-- NoMemory can occur at any time, and any other fault is that of the place where the words break
-- the form.
abbrev pub IsBlockedCauseOf : Problem → List ℕ → BlockedFault → Type 0
IsBlockedCauseOf i text (NotText byte) = ¬ IsUtf8 text × (byte ≡ utf8_valid_len text)
IsBlockedCauseOf i text NoMemory = Unit {0}
IsBlockedCauseOf i text fault = IsUtf8 text × ((k : ℕ) × BlockBreaksAt i (words text) k fault)

-- Parsing returns two tables if and only if the words spell them.
abbrev pub ReadsBlocked : Type 0
ReadsBlocked = (i : Problem) (words : List (List ℕ)) (closed blocked : List Bool)
    → (blocked_answer i words ≡ Ok (record { closed = closed; blocked = blocked }) → BlockSpells i words closed blocked) × (BlockSpells i words closed blocked → blocked_answer i words ≡ Ok (record { closed = closed; blocked = blocked }))

-- Words spell at most one pair of tables.
abbrev pub SpellsOneBlocked : Type 0
SpellsOneBlocked = (i : Problem) (words : List (List ℕ)) (closed closed' blocked blocked' : List Bool) → BlockSpells i words closed blocked → BlockSpells i words closed' blocked' → (closed ≡ closed') × (blocked ≡ blocked')

-- Parsing fails with a fault if and only if the words break the form at some place with that fault.
abbrev pub BlockedFailsWhereBroken : Type 0
BlockedFailsWhereBroken = (i : Problem) (words : List (List ℕ)) (fault : BlockedFault)
    → (blocked_answer i words ≡ Err fault → (k : ℕ) × BlockBreaksAt i words k fault) × ((k : ℕ) → BlockBreaksAt i words k fault → blocked_answer i words ≡ Err fault)

-- Words break the form at most at one place, with one fault.
abbrev pub BlockedBreaksOnce : Type 0
BlockedBreaksOnce = (i : Problem) (words : List (List ℕ)) (k k' : ℕ) (fault fault' : BlockedFault) → BlockBreaksAt i words k fault → BlockBreaksAt i words k' fault' → (k ≡ k') × (fault ≡ fault')

-- Words either spell two tables or break the form, and never both.
abbrev pub BlockedSpellsOrBreaks : Type 0
BlockedSpellsOrBreaks = (i : Problem) (words : List (List ℕ)) → (((closed : List Bool) × (blocked : List Bool) × BlockSpells i words closed blocked) ⊎ ((k : ℕ) × (fault : BlockedFault) × BlockBreaksAt i words k fault))
    × ((closed blocked : List Bool) (k : ℕ) (fault : BlockedFault) → BlockSpells i words closed blocked → BlockBreaksAt i words k fault → ⊥)
