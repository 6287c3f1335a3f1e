-- The laws of the text of a solution: words spell a timetable, or break the form at one place.
use Rattle.std.specs.Prelude.{◌≡◌, ◌⊎◌, ℕ, List, Result, Ok, Err}
use Rattle.std.specs.Str.{IsUtf8}
use Rattle.std.specs.Str.Lossy.{utf8_valid_len}
use Rattle.ctt_text.specs.declared.fault.SolutionFault.{SolutionFault}
use Rattle.ctt_text.specs.declared.fault.SolutionFault.TheVariants.{NotText, NoMemory}
use Rattle.ctt_problem.specs.declared.placed.Placed.{Placed}
use Rattle.ctt_text.specs.Words.{words}
use Rattle.ctt_text.specs.Forms.{read, without_rest}
use Rattle.ctt_problem.specs.Problem.{Problem, IsProblem}
use Rattle.ctt_problem.specs.Named.{IsNamed}
use Rattle.ctt_problem.specs.Timetable.{IsTimetable}
use Rattle.ctt_text.specs.SolutionPlaces.{solution, cut}
use Rattle.ctt_text.specs.SolutionText.{SolSpells, SolutionBreaksAt}
use Rattle.ctt_text.specs.Written.{soltext}

-- the result of parsing the words
abbrev pub solution_answer : Problem → List (List ℕ) → Result (List Placed) SolutionFault
solution_answer i words = without_rest (read cut (solution i words) words 1)

-- The cause of a fault in a text: NotText carries the length of the longest valid UTF-8 prefix,
-- NoMemory can occur at any time, and any other fault is that of the place where the words break
-- the form.
abbrev pub IsSolutionCauseOf : Problem → List ℕ → SolutionFault → Type 0
IsSolutionCauseOf i text (NotText byte) = ¬ IsUtf8 text × (byte ≡ utf8_valid_len text)
IsSolutionCauseOf i text NoMemory = Unit {0}
IsSolutionCauseOf i text fault = IsUtf8 text × ((k : ℕ) × SolutionBreaksAt i (words text) k fault)

-- Parsing returns a timetable if and only if the words spell it.
abbrev pub ReadsSolutions : Type 0
ReadsSolutions = (i : Problem) (words : List (List ℕ)) (t : List Placed) → (solution_answer i words ≡ Ok t → SolSpells i words t) × (SolSpells i words t → solution_answer i words ≡ Ok t)

-- Words spell at most one timetable.
abbrev pub SpellsOneTimetable : Type 0
SpellsOneTimetable = (i : Problem) (words : List (List ℕ)) (t u : List Placed) → SolSpells i words t → SolSpells i words u → t ≡ u

-- Parsing fails with a fault if and only if the words break the form at some place with that fault.
abbrev pub SolutionFailsWhereBroken : Type 0
SolutionFailsWhereBroken = (i : Problem) (words : List (List ℕ)) (fault : SolutionFault)
    → (solution_answer i words ≡ Err fault → (k : ℕ) × SolutionBreaksAt i words k fault) × ((k : ℕ) → SolutionBreaksAt i words k fault → solution_answer i words ≡ Err fault)

-- Words break the form at most at one place, with one fault.
abbrev pub SolutionBreaksOnce : Type 0
SolutionBreaksOnce = (i : Problem) (words : List (List ℕ)) (k k' : ℕ) (fault fault' : SolutionFault) → SolutionBreaksAt i words k fault → SolutionBreaksAt i words k' fault' → (k ≡ k') × (fault ≡ fault')

-- Words either spell a timetable or break the form, and never both.
abbrev pub SolutionSpellsOrBreaks : Type 0
SolutionSpellsOrBreaks = (i : Problem) (words : List (List ℕ)) → (((t : List Placed) × SolSpells i words t) ⊎ ((k : ℕ) × (fault : SolutionFault) × SolutionBreaksAt i words k fault))
    × ((t : List Placed) (k : ℕ) (fault : SolutionFault) → SolSpells i words t → SolutionBreaksAt i words k fault → ⊥)

-- What words spell is a timetable of the instance.
abbrev pub SpelledIsTimetable : Type 0
SpelledIsTimetable = (i : Problem) (words : List (List ℕ)) (t : List Placed) → IsProblem i → SolSpells i words t → IsTimetable i t

-- The written form of a timetable spells this timetable and no other.
abbrev pub WrittenSpells : Type 0
WrittenSpells = (i : Problem) (t : List Placed) → IsProblem i → IsNamed i → IsTimetable i t → SolSpells i (words (soltext i t)) t × ((u : List Placed) → SolSpells i (words (soltext i t)) u → u ≡ t)
