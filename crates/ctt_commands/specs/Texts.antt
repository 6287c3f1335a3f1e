-- The texts of journals.
use Rattle.std.specs.Prelude.{ℕ, List}
use Rattle.std.specs.Str.{IsUtf8}
use Rattle.ctt_problem.specs.Problem.{Problem}
use Rattle.ctt_text.specs.Words.{words}
use Rattle.ctt_core.specs.declared.journal.JournalEntry.{JournalEntry}
use Rattle.ctt_script.specs.JournalText.{JournalSpells}

-- the text is UTF-8 and a journal with these entries, of drafts on timetables of the instance
pub record IsJournalText (problem : Problem) (text : List ℕ) (entries : List JournalEntry) : Type 0 where
  pub is_text : IsUtf8 text
  pub spells : JournalSpells problem (words text) entries

-- the text is not a journal
abbrev pub IsNoJournal : Problem → List ℕ → Type 0
IsNoJournal problem text = (entries : List JournalEntry) → ¬ IsJournalText problem text entries
