-- What the last lines of a desk say, and its minutes.
use Rattle.std.specs.Prelude.{ℕ, ◌≡◌, List, [], Option, None, Some, IfSome}
use Rattle.ctt_problem.specs.Problem.{Problem}
use Rattle.ctt_problem.specs.declared.placed.Placed.{Placed}
use Rattle.ctt_core.specs.Runs.{Legal}
use Rattle.ctt_core.specs.declared.journal.JournalEntry.{JournalEntry}
use Rattle.ctt_seat.specs.CrewText.{closing_text}
use Rattle.ctt_log.specs.Minutes.{AreMinutesOf}

-- the bytes that a writer has taken, if there is one
abbrev pub taken_by : {W : Type 0} → (W → Option (List ℕ)) → Option W → Option (List ℕ)
taken_by taken None = None
taken_by taken (Some writer) = taken writer

-- the last lines of a desk are those of a legal history on the opening, and if there are minutes,
-- they are the bytes of the start and then the entries of that history
pub record IsRecorded {W : Type 0} (taken : W → Option (List ℕ)) (i : Problem) (opening : List Placed) (start : Option (List ℕ)) (minutes : Option W) (text : List ℕ) : Type 0 where
  pub history : List JournalEntry
  pub legal : Legal i opening history
  pub is : text ≡ closing_text i opening [] history
  pub entries : IfSome minutes (λ writer. AreMinutesOf i history start (taken writer))
