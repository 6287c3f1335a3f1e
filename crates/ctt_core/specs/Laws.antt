-- The laws of desks that the layers above rely on.
use Rattle.std.specs.Prelude.{ℕ, ◌+◌, ◌≡◌, ◌≤◌, ◌↔◌, List, ◌∷◌, ◌++◌, length, Ok}
use Rattle.std.specs.List.{AllByRecursion as Each}
use Rattle.ctt_problem.specs.Problem.{Problem, IsProblem}
use Rattle.ctt_problem.specs.declared.placed.Placed.{Placed}
use Rattle.ctt_rules.specs.Hard.{Lawful}
use Rattle.ctt_edits.specs.Openings.{opening}
use Rattle.ctt_core.specs.Runs.{after, Legal, Turn, answered, commits, accepted_of, now, view_after, reference_answer, Right, EventFits, RunFits, onto}
use Rattle.ctt_core.specs.Answers.{SameView, acceptance}
use Rattle.ctt_core.specs.Desks.{DeskValue, StandsAt, view_of, next_state, IsAnswerTo}
use Rattle.ctt_core.specs.Entries.{EntryFits}
use Rattle.ctt_core.specs.Audits.{IsVerdict}
use Rattle.ctt_core.specs.declared.event.Event.{Event}
use Rattle.ctt_core.specs.declared.event.Event.TheVariants.{Status, Commit}
use Rattle.ctt_core.specs.declared.answer.Answer.{Answer}
use Rattle.ctt_core.specs.declared.answer.Answer.TheVariants.{Draft}
use Rattle.ctt_core.specs.declared.draft_status.DraftStatus.{DraftStatus}
use Rattle.ctt_core.specs.declared.auditing.Verdict.{Verdict}
use Rattle.ctt_core.specs.declared.auditing.Verdict.TheVariants.{Agrees}
use Rattle.ctt_core.specs.declared.journal.JournalEntry.{JournalEntry}

-- after any correct run of events that fit, the accepted history is legal, and the timetable is
-- lawful
abbrev pub Headline : Type 0
Headline = (i : Problem) (t0 : List Placed) (n : ℕ) (past : List Turn) → Lawful i t0 → RunFits i n past → Right i t0 past → Legal i t0 (accepted_of past) × Lawful i (now i t0 past)

-- the desk is in the state that a correct run of events that fit leads to
pub record Stands (v : DeskValue) (past : List Turn) : Type 0 where
  pub fit : RunFits v.problem (length v.drafts) past
  pub right : Right v.problem v.opening past
  pub at : StandsAt v past

-- a desk in the state of a correct run shows what the reference desk shows, so that it gives the same
-- answers
abbrev pub DeskShowsReference : Type 0
DeskShowsReference = (v : DeskValue) (past : List Turn) → Lawful v.problem v.opening → Stands v past → SameView (view_of v) (view_after v.problem v.opening past)

-- by these answers it moves to the state of the longer run
abbrev pub DeskFollowsReference : Type 0
DeskFollowsReference = (v : DeskValue) (past : List Turn) (event : Event) (answer : Answer) → Lawful v.problem v.opening → Stands v past → EventFits v.problem (length v.drafts) event → IsAnswerTo v event answer → Stands (next_state v event answer) (answered event answer ∷ past)

-- the journal is the run's accepted history, which is legal; the timetable is the opening with the
-- journal applied, and lawful
pub record Serial (v : DeskValue) (past : List Turn) : Type 0 where
  pub journal : v.journal ≡ accepted_of past
  pub legal : Legal v.problem v.opening v.journal
  pub list : v.list ≡ after v.problem v.opening v.journal
  pub lawful : Lawful v.problem v.list

-- this holds of a desk in the state of a correct run
abbrev pub DeskIsSerial : Type 0
DeskIsSerial = (v : DeskValue) (past : List Turn) → Lawful v.problem v.opening → Stands v past → Serial v past

-- the entries of the desk's journal fit, and an audit of it on lectures that make the opening has
-- the verdict `Agrees` and no other
pub record IsVouched (v : DeskValue) : Type 0 where
  pub fits : Each (EntryFits v.problem) v.journal
  pub agrees : (lectures : List Placed) (verdict : Verdict) → opening v.problem lectures ≡ Ok v.opening → IsVerdict v.problem lectures v.journal verdict ↔ (verdict ≡ Agrees)

-- this holds of a desk of at most 1,000 planners in the state of a correct run
abbrev pub JournalAgrees : Type 0
JournalAgrees = (v : DeskValue) (past : List Turn) → IsProblem v.problem → Lawful v.problem v.opening → length v.drafts ≤ 1000 → Stands v past → IsVouched v

-- the right answer to a commit directly after a status: stale by the row that the status reported,
-- or accepted if it reported none
abbrev pub StatusForetells : Type 0
StatusForetells = (i : Problem) (t0 : List Placed) (past : List Turn) (p : ℕ) (s : DraftStatus) → reference_answer i t0 past (Status p) ≡ Draft s → reference_answer i t0 (answered (Status p) (Draft s) ∷ past) (Commit p) ≡ acceptance (commits past + 1) s.stale

-- adding events to a run, and then more events, is adding all of them
abbrev pub OntoJoins : Type 0
OntoJoins = (past : List Turn) (es more : List Event) (answers later : List Answer) → length es ≡ length answers → onto (onto past es answers) more later ≡ onto past (es ++ more) (answers ++ later)

-- two histories, one after the other, leave what the second leaves on the timetable after the first
abbrev pub AfterJoins : Type 0
AfterJoins = (i : Problem) (t : List Placed) (h more : List JournalEntry) → after i t (h ++ more) ≡ after i (after i t h) more

-- two histories are legal together if and only if the first is legal, and the second is legal on
-- the timetable after the first
abbrev pub LegalJoins : Type 0
LegalJoins = (i : Problem) (t : List Placed) (h more : List JournalEntry) → Legal i t (h ++ more) ↔ (Legal i t h × Legal i (after i t h) more)
