-- The value of a draft, and its invariant.
use Rattle.std.specs.Prelude.{ℕ, ◌≡◌, ◌<◌, List, [], ◌∷◌, ◌++◌, Option, Some, None}
use Rattle.std.specs.List.{AllByRecursion as Each}
use Rattle.ctt_problem.specs.Problem.{Problem, course_count, slot_count}
use Rattle.ctt_problem.specs.declared.placed.Placed.{Placed}
use Rattle.ctt_rules.specs.Hard.{Lawful}
use Rattle.ctt_board.specs.declared.cell.Cell.{Cell}
use Rattle.ctt_edits.specs.Calls.{CallFits}
use Rattle.ctt_edits.specs.RowSets.{RowSet, has_course, has_slot}
use Rattle.ctt_edits.specs.declared.call.Call.{Call}
use Rattle.ctt_edits.specs.declared.reply.Reply.{Reply}
use Rattle.ctt_edits.specs.declared.row.Row.{Row}
use Rattle.ctt_draft.specs.Drafts.{calls_of, replies_in, replies, whole, changes, all_read_course, all_read_slot, stale}
use Rattle.ctt_board.specs.Changes.{ChangesFit}
use Rattle.ctt_draft.specs.DraftLaws.{SameOn}
use Rattle.ctt_draft.specs.Undo.{undo_of, UndoValue}
use Rattle.ctt_draft.specs.declared.asked.Asked.{Asked}

-- a draft: its snapshot, which is the timetable at the opening or the last refresh, and its calls
-- with their replies
pub record DraftValue : Type 0 where
  pub problem : Problem
  pub base : List Placed
  pub asked : List Asked

-- the timetable as the calls leave it
abbrev pub present : DraftValue → List Placed
present d = whole d.problem d.base (calls_of d.asked)

-- the draft with one more call
abbrev pub asked_more : DraftValue → Call → Reply → DraftValue
asked_more d call reply = record { problem = d.problem; base = d.base; asked = d.asked ++ record { call = call; reply = reply } ∷ [] }

-- the draft after a refresh on the timetable t: t is its snapshot, or it is unchanged if a row is
-- stale
abbrev pub refreshed : DraftValue → List Placed → Option Row → DraftValue
refreshed d t None = record { problem = d.problem; base = t; asked = d.asked }
refreshed d t (Some row) = d

-- the calls fit, and the replies are those that they get on the snapshot
pub record IsTold (i : Problem) (base : List Placed) (asked : List Asked) : Type 0 where
  pub fit : Each (CallFits i) (calls_of asked)
  pub told : replies_in asked ≡ replies i base (calls_of asked)

-- the invariant of a draft: it stores the present timetable, its changes, its undo record and the
-- rows that it read
pub record IsDraft (i present_problem : Problem) (base present : List Placed) (asked : List Asked) (made : List (List Cell)) (undo : UndoValue) (rows : RowSet) : Type 0 where
  pub lawful_base : Lawful i base
  pub present_of : present_problem ≡ i
  pub is_told : IsTold i base asked
  pub present_is : present ≡ whole i base (calls_of asked)
  pub made_is : made ≡ changes i base (calls_of asked)
  pub undo_is : undo ≡ record { courses = course_count i; slots = slot_count i; cells = undo_of base (changes i base (calls_of asked)) }
  pub courses_are : (n : ℕ) → n < course_count i → has_course rows n ≡ all_read_course i (calls_of asked) n
  pub slots_are : (n : ℕ) → n < slot_count i → has_slot rows n ≡ all_read_slot (calls_of asked) n

-- the draft can be settled on the timetable t: its changes fit there, and its calls do the same
-- there as on the snapshot
pub record Settles (d : DraftValue) (t : List Placed) : Type 0 where
  pub fit : ChangesFit d.problem (changes d.problem d.base (calls_of d.asked)) t
  pub same : SameOn d.problem d.base t (calls_of d.asked)

-- a draft is not stale on its snapshot, and can be settled there
abbrev pub SettlesAtOnce : Type 0
SettlesAtOnce = (d : DraftValue) → Lawful d.problem d.base → IsTold d.problem d.base d.asked → (stale d.problem d.base d.base (calls_of d.asked) ≡ None) × Settles d d.base
