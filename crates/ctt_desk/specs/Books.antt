-- The logbook of a desk's history: its rule, and the outcome of its one step.
use Rattle.std.specs.Prelude.{ℕ, ◌≡◌, ◌==◌, true, List, [], ◌∷◌, ◌++◌, length, MatchBool}
use Rattle.logbook.specs.Pages.{Cell, Step, View, Book, Named}
use Rattle.ctt_core.specs.declared.journal.JournalEntry.{JournalEntry}

-- the rule: of the book's two words, the first is the length of the history and the second is 0
pub record IsKept (cells : List Cell) (history : List JournalEntry) : Type 0 where
  pub words : cells ≡ (length history, true) ∷ (0, true) ∷ []

-- the word of this book that holds the length of the history
abbrev pub head_of : Book → Named
head_of book = record { tracked = true; key = 0; book = book }

-- if the expected length was found, the entry was appended to the history that had been seen
abbrev pub AppendsEntry : Step JournalEntry → View JournalEntry ℕ → ℕ → View JournalEntry ℕ → Type 0
AppendsEntry s v found w = MatchBool (found == s.old) (w.0 ≡ v.0 ++ s.ask ∷ []) (Unit {0})
