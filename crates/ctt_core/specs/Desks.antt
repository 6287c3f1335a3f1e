-- The value of a desk, what it shows and its next state, none of which depends on a run; a law says
-- that it shows what the reference desk shows.
use Rattle.std.specs.Prelude.{ℕ, ◌^◌, ◌<◌, ◌≤◌, ◌≡◌, List, [], ◌∷◌, ◌++◌, length, Option, Some, None, slice_index_or, slice_set, IfSome}
use Rattle.ctt_problem.specs.Problem.{Problem}
use Rattle.ctt_problem.specs.declared.placed.Placed.{Placed}
use Rattle.ctt_rules.specs.Hard.{Lawful}
use Rattle.ctt_edits.specs.declared.call.Call.{Call}
use Rattle.ctt_edits.specs.declared.reply.Reply.{Reply}
use Rattle.ctt_draft.specs.Drafts.{calls_of, whole}
use Rattle.ctt_draft.specs.DraftValues.{asked_more, refreshed, Settles}
use Rattle.ctt_core.specs.Answers.{OpenValue, DeskView, answer_to, IsPermitted}
use Rattle.ctt_core.specs.declared.event.Event.{Event}
use Rattle.ctt_core.specs.declared.event.Event.TheVariants.{Open, Ask, Commit, Refresh, Abandon}
use Rattle.ctt_core.specs.declared.answer.Answer.{Answer}
use Rattle.ctt_core.specs.declared.answer.Answer.TheVariants.{Opened, Replied, Committed, Refreshed, Stale, Abandoned}
use Rattle.ctt_core.specs.declared.journal.JournalEntry.{JournalEntry}
use Rattle.ctt_core.specs.Runs.{Turn, draft, accepted_of, now, stored}

-- a desk: the opening timetable, the present one, the accepted drafts, and the open draft of each
-- planner
pub record DeskValue : Type 0 where
  pub problem : Problem
  pub opening : List Placed
  pub list : List Placed
  pub journal : List JournalEntry
  pub drafts : List (Option OpenValue)

-- the open draft of planner p, if any
abbrev pub draft_at : List (Option OpenValue) → ℕ → Option OpenValue
draft_at drafts p = slice_index_or drafts p None

-- the desk is in the state that the run leads to
pub record StandsAt (v : DeskValue) (past : List Turn) : Type 0 where
  pub list : v.list ≡ now v.problem v.opening past
  pub journal : v.journal ≡ accepted_of past
  pub drafts : (p : ℕ) → draft_at v.drafts p ≡ stored v.problem v.opening (accepted_of past) (draft p past)

-- what the desk shows
abbrev pub view_of : DeskValue → DeskView
view_of v = record { list = v.list; count = length v.journal; drafts = λ p. draft_at v.drafts p }

-- the desk with d as the open draft of planner p
abbrev pub with_draft : ℕ → Option OpenValue → DeskValue → DeskValue
with_draft p d v = record v { drafts = slice_set v.drafts p d }

-- the open draft, if any, with one more call
abbrev pub with_call : Call → Reply → Option OpenValue → Option OpenValue
with_call call told None = None
with_call call told (Some d) = Some (record { since = d.since; draft = asked_more d.draft call told })

-- the open draft, if any, with the desk's timetable as its snapshot
abbrev pub with_base : DeskValue → Option OpenValue → Option OpenValue
with_base v None = None
with_base v (Some d) = Some (record { since = length v.journal; draft = refreshed d.draft v.list None })

-- the desk after an accepted commit
abbrev pub settled : ℕ → DeskValue → Option OpenValue → DeskValue
settled p v None = v
settled p v (Some d) = record v {
  list = whole d.draft.problem v.list (calls_of d.draft.asked);
  journal = v.journal ++ record { planner = p; asked = d.draft.asked } ∷ [];
  drafts = slice_set v.drafts p None;
}

-- the next state of the desk, after an event with this answer
abbrev pub next_state : DeskValue → Event → Answer → DeskValue
next_state v (Open p) Opened = with_draft p (Some (record { since = length v.journal; draft = record { problem = v.problem; base = v.list; asked = [] } })) v
next_state v (Ask p call) (Replied told) = with_draft p (with_call call told (draft_at v.drafts p)) v
next_state v (Commit p) (Committed n) = settled p v (draft_at v.drafts p)
next_state v (Commit p) (Stale row) = with_draft p None v
next_state v (Refresh p) Refreshed = with_draft p (with_base v (draft_at v.drafts p)) v
next_state v (Refresh p) (Stale row) = with_draft p None v
next_state v (Abandon p) Abandoned = with_draft p None v
next_state v _ _ = v

-- the answer is that of the desk, or out of memory if that may happen
abbrev pub IsAnswerTo : DeskValue → Event → Answer → Type 0
IsAnswerTo v event answer = IsPermitted event (answer_to v.problem (view_of v) event) answer

-- if no draft was accepted since the draft's snapshot was taken, this is the desk's timetable, of n
-- accepted drafts
pub record IsCounted (list : List Placed) (n : ℕ) (d : OpenValue) : Type 0 where
  pub since : d.since ≤ n
  pub base : d.since ≡ n → d.draft.base ≡ list

-- the invariant of a desk: its timetable and its open drafts are of its instance, its opening is
-- lawful, it has fewer than 2^16 planners, and a draft since whose snapshot none was accepted has
-- the timetable as its snapshot
pub record IsDesk (i sheet_problem : Problem) (opening list : List Placed) (journal : List JournalEntry) (drafts : List (Option OpenValue)) : Type 0 where
  pub same : sheet_problem ≡ i
  pub opening_lawful : Lawful i opening
  pub few : length drafts < 2 ^ 16
  pub drafts_of : (p : ℕ) → IfSome (draft_at drafts p) (λ d. d.draft.problem ≡ i)
  pub counted : (p : ℕ) → IfSome (draft_at drafts p) (IsCounted list (length journal))

-- there is a draft, and it can be settled on the desk's timetable
abbrev pub IsFresh : DeskValue → Option OpenValue → Type 0
IsFresh v None = ⊥
IsFresh v (Some d) = Settles d.draft v.list

-- the desks have the same instance, the same opening and the same number of planners
pub record SameDesk (v w : DeskValue) : Type 0 where
  pub problem : w.problem ≡ v.problem
  pub opening : w.opening ≡ v.opening
  pub planners : length w.drafts ≡ length v.drafts
