-- What a job does, and why it stops: a case a kind of job.
use Rattle.std.specs.Prelude.{◌≡◌, ◌⊎◌, [], Option}
use Rattle.std.specs.Global.{Global}
use Rattle.std.specs.String.{string_bytes}
use Rattle.std.specs.declared.string.String.{String}
use Rattle.ctt_files.specs.Faults.{IfUnwritten, MayHaveWritten}
use Rattle.ctt_files.specs.Storing.{IsGiven, KeepOthers}
use Rattle.ctt_files.specs.Texts.{Held}
use Rattle.ctt_files.specs.declared.fault.Fault.{Fault}
use Rattle.ctt_files.specs.declared.fault.Fault.TheVariants.{Machine}
use Rattle.ctt_files.specs.declared.fault.MachineFault.TheVariants.{CannotWrite}
use Rattle.ctt_files.specs.declared.outcome.Outcome.{Outcome}
use Rattle.ctt_files.specs.declared.outcome.Outcome.TheVariants.{Done}
use Rattle.ctt_files.specs.declared.output.Output.{Output}
use Rattle.ctt_files.specs.declared.sides.Sides.{Sides}
use Rattle.ctt_words.specs.declared.job.Command.{Command}
use Rattle.ctt_words.specs.declared.job.Job.{Job}
use Rattle.ctt_words.specs.declared.job.Job.TheVariants.{Answer, Desk, Run}
use Rattle.ctt_commands.specs.Commands.{Answers, IsLoaded, IsUnanswered, IsUnloaded}
use Rattle.ctt_commands.specs.Faults.{KeptUnless}
use Rattle.ctt_commands.specs.Refusals.{IsOfRun}
use Rattle.ctt_commands.specs.Runs.{AnswersScript, RunsScript}
use Rattle.ctt_commands.specs.declared.task.Task.{Task}
use Rattle.ctt_program.specs.Desks.{DoesDesk, StopsDesk}
use Rattle.ctt_program.specs.Streams.{HasFailed, IsUnmarked, IsUntouched, Stream, Writes, WritesFront}

-- an output is delivered: its text is printed, and its diagnostics, if there are any, are said,
-- unless standard error fails
pub record IsDelivered {W V : Type 0} (output : Output) (out : Stream W) (err : Stream V) : Type 0 where
  pub printed : Writes out output.text.items
  pub said : HasFailed err ⊎ Writes err (string_bytes output.diagnostics)
  pub quiet : string_bytes output.diagnostics ≡ [] → IsUntouched err

-- a command is done: a task is loaded from its files, and an output answers it, which is delivered;
-- its outcome is that of the command, and no file is changed
pub record DoesCommand {W V : Type 0} (command : Command) (outcome : Outcome) (before after : Held) (out : Stream W) (err : Stream V) : Type 0 where
  pub task : Task
  pub is_loaded : IsLoaded command before task
  pub output : Output
  pub answers : Answers task output
  pub is_delivered : IsDelivered output out err
  pub ends : outcome ≡ output.outcome
  pub kept : after ≡ before

-- no task is loaded from the files of a command, or the task is not answered
abbrev pub IsUndone : Command → Held → Fault → Type 0
IsUndone command held fault = IsUnloaded command held fault ⊎ ((task : Task) × IsLoaded command held task × IsUnanswered task fault)

-- the output that answers the task of a command is printed only in part, since standard output
-- fails
pub record IsCutShort {W : Type 0} (command : Command) (held : Held) (out : Stream W) : Type 0 where
  pub task : Task
  pub is_loaded : IsLoaded command held task
  pub output : Output
  pub answers : Answers task output
  pub front : WritesFront out output.text.items
  pub failed : HasFailed out

-- a command stops with this fault: it is undone, and nothing is printed, or its output is cut short;
-- nothing is said, and no file is changed
pub record StopsCommand {W V : Type 0} (command : Command) (fault : Fault) (before after : Held) (out : Stream W) (err : Stream V) : Type 0 where
  pub cause : (IsUndone command before fault × IsUntouched out) ⊎ ((fault ≡ Machine CannotWrite) × IsCutShort command before out)
  pub quiet : IsUntouched err
  pub kept : after ≡ before

-- a run stops with this fault: its files, its start or its script have it, or something could not be
-- written, which is the journal only after all answers; a prefix of these is printed; no file is
-- changed but that of the journal, and only if it could not be stored
pub record StopsRun {W V : Type 0} (instance : String Global) (sides : Sides) (script : String Global) (start journal : Option (String Global)) (fault : Fault) (before after : Held) (out : Stream W) (err : Stream V) : Type 0 where
  pub cause : IfUnwritten fault (HasFailed out ⊎ (IsGiven journal × AnswersScript (λ bytes. Writes out bytes) instance sides script start before)) (IsOfRun before instance sides script start fault × IsUnmarked out)
  pub printed : MayHaveWritten fault ⊎ IsUntouched out
  pub front : IsUntouched out ⊎ AnswersScript (λ bytes. WritesFront out bytes) instance sides script start before
  pub quiet : IsUntouched err
  pub unstored : KeptUnless fault (IsUnmarked out × IsGiven journal) (after ≡ before)
  pub others : KeepOthers journal before after

-- what a job does that is done with this outcome
abbrev pub Does : {W V : Type 0} → Job → Outcome → Held → Held → Stream W → Stream V → Type 0
Does (Answer command) outcome before after out err = DoesCommand command outcome before after out err
Does (Run instance sides script start journal) outcome before after out err = (outcome ≡ Done)
    × RunsScript instance sides script start journal before after (out.taken out.old) (out.taken out.new) × IsUntouched err
Does (Desk instance sides seats start minutes) outcome before after out err = (outcome ≡ Done)
    × DoesDesk instance sides (record { seats = seats; start = start; minutes = minutes }) before after out err

-- why a job stops with this fault, and what it leaves
abbrev pub Stops : {W V : Type 0} → Job → Fault → Held → Held → Stream W → Stream V → Type 0
Stops (Answer command) fault before after out err = StopsCommand command fault before after out err
Stops (Run instance sides script start journal) fault before after out err = StopsRun instance sides script start journal fault before after out err
Stops (Desk instance sides seats start minutes) fault before after out err = StopsDesk instance sides (record { seats = seats; start = start; minutes = minutes }) fault before after out err
