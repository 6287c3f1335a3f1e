-- The laws of drafts that the layers above rely on.
use Rattle.std.specs.Prelude.{◌≡◌, List, None}
use Rattle.std.specs.List.{AllByRecursion as Each}
use Rattle.ctt_problem.specs.Problem.{Problem}
use Rattle.ctt_problem.specs.Timetable.{IsTimetable}
use Rattle.ctt_problem.specs.declared.placed.Placed.{Placed}
use Rattle.ctt_board.specs.declared.cell.Cell.{Cell}
use Rattle.ctt_rules.specs.Hard.{Lawful}
use Rattle.ctt_edits.specs.Calls.{CallFits}
use Rattle.ctt_edits.specs.declared.call.Call.{Call}
use Rattle.ctt_draft.specs.Drafts.{replies, whole, changes, stale}
use Rattle.ctt_board.specs.Changes.{apply_all, ChangesFit}
use Rattle.ctt_draft.specs.Undo.{undo_of, put_back}

-- the calls do on the timetable t what they do on the snapshot: they get the same replies, and make
-- the same changes, which lead from t to the timetable that they leave
pub record SameOn (i : Problem) (base t : List Placed) (calls : List Call) : Type 0 where
  pub replies_same : replies i t calls ≡ replies i base calls
  pub changes_same : changes i t calls ≡ changes i base calls
  pub left : whole i t calls ≡ apply_all (changes i base calls) t

-- a draft that is not stale gets the same replies, and makes the same changes, on the present
-- timetable as on its snapshot
abbrev pub DraftFrame : Type 0
DraftFrame = (i : Problem) (base now : List Placed) (calls : List Call) → Lawful i base → Lawful i now → Each (CallFits i) calls → stale i base now calls ≡ None → SameOn i base now calls

-- the changes of a draft that is not stale fit the present timetable, made in order
abbrev pub SettlingFits : Type 0
SettlingFits = (i : Problem) (base now : List Placed) (calls : List Call) → Lawful i base → Lawful i now → Each (CallFits i) calls → stale i base now calls ≡ None → ChangesFit i (changes i base calls) now

-- putting the cells of the undo record back on the timetable that changes leave gives the timetable
-- before them
abbrev pub UndoPutsBack : Type 0
UndoPutsBack = (i : Problem) (base : List Placed) (changes : List (List Cell)) → IsTimetable i base → ChangesFit i changes base → put_back i (undo_of base changes) (apply_all changes base) ≡ base
