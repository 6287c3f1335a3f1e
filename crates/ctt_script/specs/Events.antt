-- The grammar of a line of a script.
use Rattle.std.specs.Prelude.{ℕ, List, Option, Some, if◌then◌else◌, codes}
use Rattle.std.specs.Str.{bytes_eq}
use Rattle.std.specs.Option.{option_map}
use Rattle.ctt_problem.specs.Problem.{Problem}
use Rattle.ctt_text.specs.Forms.{Form, done, ◌>>=◌}
use Rattle.ctt_script.specs.declared.journal_fault.JournalFault.{JournalFault}
use Rattle.ctt_core.specs.declared.event.Event.{Event}
use Rattle.ctt_core.specs.declared.event.Event.TheVariants.{Open, Ask, Peek, Status, Commit, Refresh, Abandon, Show}
use Rattle.ctt_script.specs.declared.kinds.StepKind.{StepKind}
use Rattle.ctt_script.specs.declared.kinds.StepKind.TheVariants as step
use Rattle.ctt_script.specs.declared.script.Start.{Start}
use Rattle.ctt_script.specs.declared.script.Start.TheVariants as begin
use Rattle.ctt_script.specs.declared.script.OwnStart.{OwnStart}
use Rattle.ctt_script.specs.declared.script.OwnStart.TheVariants as own
use Rattle.ctt_script.specs.Amounts.{number_below}
use Rattle.ctt_script.specs.Kinds.{step_kind}
use Rattle.ctt_script.specs.JournalWords.{word}
use Rattle.ctt_script.specs.Calls.{look_form, call_after}

-- the first word: `show`, for a look at the published timetable, or one of 64 planners
unfoldable pub first_of : List ℕ → Option Start
first_of word = if bytes_eq word (codes "show") then Some begin.Show else option_map begin.Planner (number_below 64 word)

-- what follows the keyword of a planner's step
unfoldable pub step_after : Problem → ℕ → StepKind → Form JournalFault Event
step_after i p step.Open = done (Open p)
step_after i p step.Commit = done (Commit p)
step_after i p step.Refresh = done (Refresh p)
step_after i p step.Abandon = done (Abandon p)
step_after i p step.Status = done (Status p)
step_after i p step.Peek = do
  l ← look_form i
  done (Peek p l)
step_after i p (step.Ask k) = do
  c ← call_after i k
  done (Ask p c)

-- what follows the first word
unfoldable pub event_after : Problem → Start → Form JournalFault Event
event_after i begin.Show = do
  l ← look_form i
  done (Show l)
event_after i (begin.Planner p) = do
  kind ← word step_kind step.Open
  step_after i p kind

-- an event
unfoldable pub event_form : Problem → Form JournalFault Event
event_form i = do
  first ← word first_of begin.Show
  event_after i first

-- the first word in one planner's own script: `show`, or the keyword of a step
unfoldable pub own_first_of : List ℕ → Option OwnStart
own_first_of word = if bytes_eq word (codes "show") then Some own.Show else option_map own.Step (step_kind word)

-- what follows the first word in the own script of planner p
unfoldable pub own_after : Problem → ℕ → OwnStart → Form JournalFault Event
own_after i p own.Show = do
  l ← look_form i
  done (Show l)
own_after i p (own.Step kind) = step_after i p kind

-- an event in the own script of planner p
unfoldable pub own_form : Problem → ℕ → Form JournalFault Event
own_form i p = do
  first ← word own_first_of own.Show
  own_after i p first
