-- Which words spell a journal, and at which word others break its grammar.
use Rattle.std.specs.Prelude.{◌≡◌, ℕ, List, ◌++◌, Result}
use Rattle.std.specs.Str.{IsUtf8}
use Rattle.std.specs.Str.Lossy.{utf8_valid_len}
use Rattle.ctt_text.specs.Words.{words}
use Rattle.ctt_problem.specs.Problem.{Problem}
use Rattle.ctt_text.specs.Forms.{Fills, BreaksAt, read, without_rest}
use Rattle.ctt_script.specs.declared.journal_fault.JournalFault.{JournalFault}
use Rattle.ctt_script.specs.declared.journal_fault.JournalFault.TheVariants.{NotText, NoMemory}
use Rattle.ctt_core.specs.declared.journal.JournalEntry.{JournalEntry}
use Rattle.ctt_script.specs.JournalWords.{missing_word}
use Rattle.ctt_script.specs.Journals.{journal_form}

-- A prefix of the words matches the grammar and gives the entries; what follows it is ignored.
pub record JournalSpells (i : Problem) (words : List (List ℕ)) (entries : List JournalEntry) : Type 0 where
  pub front : List (List ℕ)
  pub rest : List (List ℕ)
  pub all : words ≡ front ++ rest
  pub fills : Fills (journal_form i) front entries

-- The words before word k follow the grammar, and word k breaks it, or is missing, with this fault.
abbrev pub JournalBreaksAt : Problem → List (List ℕ) → ℕ → JournalFault → Type 0
JournalBreaksAt i words k fault = BreaksAt missing_word (journal_form i) words k fault

-- what parsing the words returns
abbrev pub journal_answer : Problem → List (List ℕ) → Result (List JournalEntry) JournalFault
journal_answer i words = without_rest (read missing_word (journal_form i) words 1)

-- The cause of a fault: NotText gives the length of the longest valid UTF-8 prefix, NoMemory may
-- come at any time, and any other fault is the one with which the words break the grammar.
abbrev pub IsJournalCauseOf : Problem → List ℕ → JournalFault → Type 0
IsJournalCauseOf i text (NotText byte) = ¬ IsUtf8 text × (byte ≡ utf8_valid_len text)
IsJournalCauseOf i text NoMemory = Unit {0}
IsJournalCauseOf i text fault = IsUtf8 text × ((k : ℕ) × JournalBreaksAt i (words text) k fault)
