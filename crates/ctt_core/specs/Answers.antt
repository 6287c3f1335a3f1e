-- The answers of a desk: one table, which depends on what a desk shows and on no run. The reference
-- desk shows what follows from the past turns, and a desk that stores its state shows that.
use Rattle.std.specs.Prelude.{ℕ, ◌+◌, ◌-◌, ◌≡◌, ◌⊎◌, Bool, true, false, List, length, Option, Some, None}
use Rattle.ctt_problem.specs.Problem.{Problem}
use Rattle.ctt_problem.specs.declared.placed.Placed.{Placed}
use Rattle.ctt_edits.specs.Calls.{reply}
use Rattle.ctt_edits.specs.Looks.{shown}
use Rattle.ctt_edits.specs.declared.call.Call.{Call}
use Rattle.ctt_edits.specs.declared.looks.Look.{Look}
use Rattle.ctt_edits.specs.declared.row.Row.{Row}
use Rattle.ctt_draft.specs.Drafts.{calls_of, changes, stale}
use Rattle.ctt_draft.specs.DraftValues.{DraftValue, present}
use Rattle.ctt_core.specs.declared.event.Event.{Event}
use Rattle.ctt_core.specs.declared.event.Event.TheVariants.{Open, Ask, Peek, Status, Commit, Refresh, Abandon, Show}
use Rattle.ctt_core.specs.declared.answer.Answer.{Answer}
use Rattle.ctt_core.specs.declared.answer.Answer.TheVariants.{Opened, AlreadyOpen, NoDraft, Replied, Draft, Committed, Refreshed, Stale, Abandoned, NoMemory}

-- an open draft, and how many drafts had been accepted when its snapshot was taken
pub record OpenValue : Type 0 where
  pub since : ℕ
  pub draft : DraftValue

-- what a desk shows: its timetable, how many drafts were accepted, and each planner's open draft,
-- if any
pub record DeskView : Type 0 where
  pub list : List Placed
  pub count : ℕ
  pub drafts : ℕ → Option OpenValue

-- the views are the same
pub record SameView (v w : DeskView) : Type 0 where
  pub list : v.list ≡ w.list
  pub count : v.count ≡ w.count
  pub drafts : (p : ℕ) → v.drafts p ≡ w.drafts p

-- the answer to an open, given the planner's open draft, if any
abbrev pub open_answer : Option OpenValue → Answer
open_answer None = Opened
open_answer (Some d) = AlreadyOpen

-- the answer to a call: its reply on the timetable that the draft leaves on its snapshot
abbrev pub ask_answer : Call → Option OpenValue → Answer
ask_answer call None = NoDraft
ask_answer call (Some d) = Replied (reply d.draft.problem (present d.draft) call)

-- the answer to a look at the draft: what it shows on the timetable that the draft leaves on its
-- snapshot
abbrev pub peek_answer : Look → Option OpenValue → Answer
peek_answer look None = NoDraft
peek_answer look (Some d) = Replied (shown d.draft.problem (present d.draft) look)

-- the row that makes a draft stale on the timetable, if any
abbrev pub stale_row : List Placed → DraftValue → Option Row
stale_row list d = stale d.problem d.base list (calls_of d.asked)

-- the answer to a status: the number of edits accepted in the draft, the number of drafts accepted
-- since its snapshot, and the row for which a commit would now be refused, if any
abbrev pub status_answer : List Placed → ℕ → Option OpenValue → Answer
status_answer list count None = NoDraft
status_answer list count (Some d) = Draft (record {
  edits = length (changes d.draft.problem d.draft.base (calls_of d.draft.asked));
  behind = count - d.since;
  stale = stale_row list d.draft;
})

-- the result of a commit: the number of accepted drafts, or the stale row
abbrev pub acceptance : ℕ → Option Row → Answer
acceptance n None = Committed n
acceptance n (Some row) = Stale row

-- the answer to a commit
abbrev pub commit_answer : List Placed → ℕ → Option OpenValue → Answer
commit_answer list count None = NoDraft
commit_answer list count (Some d) = acceptance (count + 1) (stale_row list d.draft)

-- the result of a refresh: that the draft is up to date, or the stale row
abbrev pub renewal : Option Row → Answer
renewal None = Refreshed
renewal (Some row) = Stale row

-- the answer to a refresh
abbrev pub refresh_answer : List Placed → Option OpenValue → Answer
refresh_answer list None = NoDraft
refresh_answer list (Some d) = renewal (stale_row list d.draft)

-- the answer to an abandon
abbrev pub abandon_answer : Option OpenValue → Answer
abandon_answer None = NoDraft
abandon_answer (Some d) = Abandoned

-- the answer of a desk with this view to an event, if memory does not run out
abbrev pub answer_to : Problem → DeskView → Event → Answer
answer_to i v (Open p) = open_answer (v.drafts p)
answer_to i v (Ask p call) = ask_answer call (v.drafts p)
answer_to i v (Peek p look) = peek_answer look (v.drafts p)
answer_to i v (Status p) = status_answer v.list v.count (v.drafts p)
answer_to i v (Commit p) = commit_answer v.list v.count (v.drafts p)
answer_to i v (Refresh p) = refresh_answer v.list (v.drafts p)
answer_to i v (Abandon p) = abandon_answer (v.drafts p)
answer_to i v (Show look) = Replied (shown i v.list look)

-- whether memory may run out for an event with this answer: never for a status or an abandon, nor
-- if the answer is that a draft is open already, that there is none, or that it is stale
abbrev pub may_want : Event → Answer → Bool
may_want (Status p) a = false
may_want (Abandon p) a = false
may_want _ AlreadyOpen = false
may_want _ NoDraft = false
may_want _ (Stale row) = false
may_want _ _ = true

-- the answer is the right one, or out of memory if that may happen
abbrev pub IsPermitted : Event → Answer → Answer → Type 0
IsPermitted event right answer = (answer ≡ right) ⊎ ((answer ≡ NoMemory) × (may_want event right ≡ true))
