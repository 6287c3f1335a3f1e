-- Runs of many planners: their drafts, the accepted history, and the answers of the reference desk
-- (`reference_answer`), which define correctness.
use Rattle.std.specs.Prelude.{ℕ, ◌+◌, ◌<◌, ◌≡◌, cond, List, [], ◌∷◌, ◌++◌, take, ◌==◌, Option, Some, None}
use Rattle.std.specs.List.{AllByRecursion as Each}
use Rattle.ctt_problem.specs.Problem.{Problem}
use Rattle.ctt_problem.specs.declared.placed.Placed.{Placed}
use Rattle.ctt_edits.specs.Calls.{CallFits}
use Rattle.ctt_edits.specs.Looks.{LookFits}
use Rattle.ctt_edits.specs.declared.call.Call.{Call}
use Rattle.ctt_edits.specs.declared.reply.Reply.{Reply}
use Rattle.ctt_draft.specs.Drafts.{calls_of, replies_in, replies, whole}
use Rattle.ctt_draft.specs.declared.asked.Asked.{Asked}
use Rattle.ctt_core.specs.Answers.{OpenValue, DeskView, answer_to, IsPermitted}
use Rattle.ctt_core.specs.declared.event.Event.{Event}
use Rattle.ctt_core.specs.declared.event.Event.TheVariants.{Open, Ask, Peek, Status, Commit, Refresh, Abandon, Show}
use Rattle.ctt_core.specs.declared.answer.Answer.{Answer}
use Rattle.ctt_core.specs.declared.answer.Answer.TheVariants.{Opened, Replied, Committed, Refreshed, Stale, Abandoned}
use Rattle.ctt_core.specs.declared.journal.JournalEntry.{JournalEntry}

-- the timetable after a history of drafts, each run without interruption, one after another
abbrev pub after : Problem → List Placed → List JournalEntry → List Placed
after i t [] = t
after i t (e ∷ es) = after i (whole i t (calls_of e.asked)) es

-- each recorded reply is the one that its call gets at its place in the history
abbrev pub Legal : Problem → List Placed → List JournalEntry → Type 0
Legal i t [] = Unit {0}
Legal i t (e ∷ es) = (replies_in e.asked ≡ replies i t (calls_of e.asked)) × Legal i (whole i t (calls_of e.asked)) es

-- an event with its answer; a run is a list of turns, newest first
pub record Turn : Type 0 where
  pub event : Event
  pub answer : Answer

-- the turn with this event and this answer
abbrev pub answered : Event → Answer → Turn
answered event answer = record { event = event; answer = answer }

-- an open draft: the number of commits accepted before it was opened or last refreshed, and its
-- calls with their replies
pub record OpenDraft : Type 0 where
  pub count : ℕ
  pub asked : List Asked

-- the draft, if there is one, with one more call
abbrev pub ask : Call → Reply → Option OpenDraft → Option OpenDraft
ask call told None = None
ask call told (Some d) = Some (record { count = d.count; asked = d.asked ++ record { call = call; reply = told } ∷ [] })

-- a draft that is opened after this many accepted commits
abbrev pub begin : ℕ → Option OpenDraft
begin count = Some (record { count = count; asked = [] })

-- the draft, if there is one, refreshed after this many accepted commits
abbrev pub renew : ℕ → Option OpenDraft → Option OpenDraft
renew count None = None
renew count (Some d) = Some (record { count = count; asked = d.asked })

-- the draft of planner p after a turn, if it was d before; count is the number of commits accepted
-- before the turn
abbrev pub turned : ℕ → ℕ → Event → Answer → Option OpenDraft → Option OpenDraft
turned p count (Open q) Opened d = cond (p == q) (begin count) d
turned p count (Ask q call) (Replied told) d = cond (p == q) (ask call told d) d
turned p count (Commit q) (Committed n) d = cond (p == q) None d
turned p count (Commit q) (Stale row) d = cond (p == q) None d
turned p count (Refresh q) Refreshed d = cond (p == q) (renew count d) d
turned p count (Refresh q) (Stale row) d = cond (p == q) None d
turned p count (Abandon q) Abandoned d = cond (p == q) None d
turned p count _ _ d = d

-- 1 for an accepted commit
abbrev pub is_commit : Answer → ℕ
is_commit (Committed n) = 1
is_commit _ = 0

-- how many commits were accepted
abbrev pub commits : List Turn → ℕ
commits [] = 0
commits (turn ∷ past) = commits past + is_commit turn.answer

-- the open draft of planner p, if any
abbrev pub draft : ℕ → List Turn → Option OpenDraft
draft p [] = None
draft p (turn ∷ past) = turned p (commits past) turn.event turn.answer (draft p past)

-- the journal entry of an open draft, if there is one
abbrev pub draft_entry : ℕ → Option OpenDraft → List JournalEntry
draft_entry p None = []
draft_entry p (Some d) = record { planner = p; asked = d.asked } ∷ []

-- the entry that a turn adds to the history, if it is an accepted commit
abbrev pub entered : Event → Answer → List Turn → List JournalEntry
entered (Commit p) (Committed n) past = draft_entry p (draft p past)
entered _ _ past = []

-- the drafts that were accepted, in commit order
abbrev pub accepted_of : List Turn → List JournalEntry
accepted_of [] = []
accepted_of (turn ∷ past) = accepted_of past ++ entered turn.event turn.answer past

-- the present timetable
abbrev pub now : Problem → List Placed → List Turn → List Placed
now i t0 past = after i t0 (accepted_of past)

-- an open draft of a run with its snapshot, which is the timetable when it was opened or last
-- refreshed
abbrev pub stored : Problem → List Placed → List JournalEntry → Option OpenDraft → Option OpenValue
stored i t0 h None = None
stored i t0 h (Some d) = Some (record { since = d.count; draft = record { problem = i; base = after i t0 (take d.count h); asked = d.asked } })

-- what the reference desk shows, which depends on the past turns alone
abbrev pub view_after : Problem → List Placed → List Turn → DeskView
view_after i t0 past = record { list = now i t0 past; count = commits past; drafts = λ p. stored i t0 (accepted_of past) (draft p past) }

-- the answer of the reference desk
abbrev pub reference_answer : Problem → List Placed → List Turn → Event → Answer
reference_answer i t0 past event = answer_to i (view_after i t0 past) event

-- the answer is that of the reference desk, or out of memory if that may happen
abbrev pub IsRight : Problem → List Placed → List Turn → Event → Answer → Type 0
IsRight i t0 past event answer = IsPermitted event (reference_answer i t0 past event) answer

-- a correct run: all its answers are right
abbrev pub Right : Problem → List Placed → List Turn → Type 0
Right i t0 [] = Unit {0}
Right i t0 (turn ∷ past) = IsRight i t0 past turn.event turn.answer × Right i t0 past

-- the numbers in the event are valid for the instance and for n planners
abbrev pub EventFits : Problem → ℕ → Event → Type 0
EventFits i n (Open p) = p < n
EventFits i n (Ask p call) = (p < n) × CallFits i call
EventFits i n (Peek p look) = (p < n) × LookFits i look
EventFits i n (Status p) = p < n
EventFits i n (Commit p) = p < n
EventFits i n (Refresh p) = p < n
EventFits i n (Abandon p) = p < n
EventFits i n (Show look) = LookFits i look

-- all events of a run fit
abbrev pub RunFits : Problem → ℕ → List Turn → Type 0
RunFits i n past = Each (λ (turn : Turn). EventFits i n turn.event) past

-- the run with more events and their answers, which are listed oldest first
abbrev pub onto : List Turn → List Event → List Answer → List Turn
onto past [] answers = past
onto past (e ∷ es) [] = past
onto past (e ∷ es) (a ∷ answers) = onto (answered e a ∷ past) es answers
