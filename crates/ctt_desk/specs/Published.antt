-- Published timetables: their updates, their protocol, and the steps of readers and of the writer.
use Rattle.std.specs.Prelude.{◌≡◌, ℕ, List}
use mathlib.Core.List.{IsPrefix}
use mathlib.Core.Option.{some}
use lib.ListN.{get_elem?}
use Rattle.ctt_problem.specs.Problem.{Problem}
use Rattle.ctt_problem.specs.declared.placed.Placed.{Placed}
use Rattle.ctt_board.specs.Changes.{apply_all, ChangesFit}
use Rattle.ctt_board.specs.declared.cell.Cell.{Cell}
use Rattle.ctt_core.specs.Runs.{after, Legal}
use Rattle.ctt_core.specs.declared.journal.JournalEntry.{JournalEntry}
use Rattle.ctt_desk.specs.declared.shown.View.{View}

-- a published timetable with its history
pub record ShownValue : Type 0 where
  pub problem : Problem
  pub list : List Placed
  pub history : List JournalEntry

-- the timetable t of the problem j, which is i, is the opening after a legal history
pub record IsAfterHistory (i : Problem) (opening : List Placed) (j : Problem) (t : List Placed) (history : List JournalEntry) : Type 0 where
  pub same : j ≡ i
  pub legal : Legal i opening history
  pub list : t ≡ after i opening history

-- the changes of an accepted commit, and the histories before and after it
pub record UpdateValue : Type 0 where
  pub changes : List (List Cell)
  pub before : List JournalEntry
  pub front : List JournalEntry

-- the history before is a prefix of front, and the changes lead from the opening after the one to
-- the opening after the other
pub record Leads (i : Problem) (opening : List Placed) (changes : List (List Cell)) (before front : List JournalEntry) : Type 0 where
  pub grows : IsPrefix before front
  pub fit : ChangesFit i changes (after i opening before)
  pub ends : apply_all changes (after i opening before) ≡ after i opening front

-- the view of a seat that has seen this history
abbrev pub seeing : List JournalEntry → View
seeing history = record { seen = history }

-- the protocol: the published timetable is the opening after a legal history, and each seat has
-- seen a prefix of that history
pub record Keeps (i : Problem) (opening : List Placed) (j : Problem) (t : List Placed) (history : List JournalEntry) (views : List View) : Type 0 where
  pub right : IsAfterHistory i opening j t history
  pub seen : (seat : ℕ) (v : View) → get_elem? views seat ≡ some v → IsPrefix v.seen history

-- a step: the published history extends what the seat had seen, and the seat has then seen it all
pub record SeesPublished (i : Problem) (opening : List Placed) (v : View) (j : Problem) (t : List Placed) (history : List JournalEntry) (w : View) : Type 0 where
  pub grows : IsPrefix v.seen history
  pub all : w ≡ seeing history
  pub right : IsAfterHistory i opening j t history
