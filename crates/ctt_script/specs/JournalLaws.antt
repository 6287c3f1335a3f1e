-- Laws of the words of a journal: they spell one journal, or break the grammar at one word.
use Rattle.std.specs.Prelude.{◌≡◌, ◌⊎◌, ℕ, List, Ok, Err}
use Rattle.ctt_problem.specs.Problem.{Problem}
use Rattle.ctt_core.specs.declared.journal.JournalEntry.{JournalEntry}
use Rattle.ctt_script.specs.declared.journal_fault.JournalFault.{JournalFault}
use Rattle.ctt_script.specs.JournalText.{JournalSpells, JournalBreaksAt, journal_answer}

-- Parsing returns entries if and only if the words spell them.
abbrev pub ReadsJournals : Type 0
ReadsJournals = (i : Problem) (words : List (List ℕ)) (entries : List JournalEntry) → (journal_answer i words ≡ Ok entries → JournalSpells i words entries) × (JournalSpells i words entries → journal_answer i words ≡ Ok entries)

-- Words spell at most one list of entries.
abbrev pub SpellsOneJournal : Type 0
SpellsOneJournal = (i : Problem) (words : List (List ℕ)) (entries others : List JournalEntry) → JournalSpells i words entries → JournalSpells i words others → entries ≡ others

-- Parsing returns a fault if and only if the words break the grammar with that fault.
abbrev pub JournalFailsWhereBroken : Type 0
JournalFailsWhereBroken = (i : Problem) (words : List (List ℕ)) (fault : JournalFault)
    → (journal_answer i words ≡ Err fault → (k : ℕ) × JournalBreaksAt i words k fault) × ((k : ℕ) → JournalBreaksAt i words k fault → journal_answer i words ≡ Err fault)

-- Words break the grammar at one word at most, and with one fault.
abbrev pub JournalBreaksOnce : Type 0
JournalBreaksOnce = (i : Problem) (words : List (List ℕ)) (k k' : ℕ) (fault fault' : JournalFault) → JournalBreaksAt i words k fault → JournalBreaksAt i words k' fault' → (k ≡ k') × (fault ≡ fault')

-- Words either spell a journal or break the grammar, and never both.
abbrev pub JournalSpellsOrBreaks : Type 0
JournalSpellsOrBreaks = (i : Problem) (words : List (List ℕ)) → (((entries : List JournalEntry) × JournalSpells i words entries) ⊎ ((k : ℕ) × (fault : JournalFault) × JournalBreaksAt i words k fault))
    × ((entries : List JournalEntry) (k : ℕ) (fault : JournalFault) → JournalSpells i words entries → JournalBreaksAt i words k fault → ⊥)
