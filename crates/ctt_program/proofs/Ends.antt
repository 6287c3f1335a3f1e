-- How a job ends, and with which exit status.
use Rattle.std.proofs.Common.{◌≡◌, ◌≢◌, ◌⊎◌, ◌≤◌, ◌∙◌, ⊎_elim, inl, inr, ap, arith, refl, sym, subst, Bool, true, false, ℕ, List, [], Option, Result, Ok, Err, IfOk, IfErr, OnErr, OnOk}
use Rattle.std.specs.Global.{Global}
use Rattle.std.specs.Io.KnownBytes.{Appends}
use Rattle.std.specs.String.{string_bytes}
use Rattle.std.specs.declared.string.String.{String}
use Rattle.ctt_files.specs.Faults.{IfUnwritten, MayHaveWritten, line_of, status_of}
use Rattle.ctt_files.specs.Outcomes.{outcome_status}
use Rattle.ctt_files.specs.Storing.{IsGiven, KeepOthers}
use Rattle.ctt_files.specs.Texts.{Held}
use Rattle.ctt_files.specs.declared.fault.Fault.{Fault}
use Rattle.ctt_files.specs.declared.fault.Fault.TheVariants.{Contents, Machine, Usage}
use Rattle.ctt_files.specs.declared.outcome.Outcome.{Outcome}
use Rattle.ctt_files.specs.declared.outcome.Outcome.TheVariants.{Differs, Done, Incomplete, Unlawful}
use Rattle.ctt_files.specs.declared.fault.MachineFault.TheVariants.{CannotWrite, NoMemory}
use Rattle.ctt_files.specs.declared.output.Output.{Output}
use Rattle.ctt_files.specs.declared.sides.Sides.{Sides}
use Rattle.ctt_words.specs.declared.job.Command.{Command}
use Rattle.ctt_words.specs.declared.job.Job.{Job}
use Rattle.ctt_words.specs.declared.job.Job.TheVariants.{Answer, Desk, Run}
use Rattle.ctt_commands.specs.Commands.{Answers, IsLoaded}
use Rattle.ctt_commands.specs.Faults.{KeptUnless}
use Rattle.ctt_commands.specs.Refusals.{IsOfRun}
use Rattle.ctt_commands.specs.Runs.{AnswersScript}
use Rattle.ctt_commands.specs.declared.task.Task.{Task}
use Rattle.ctt_program.specs.Desks.{DoesDesk}
use Rattle.ctt_program.specs.Jobs.{Does, DoesCommand, Stops, StopsCommand, StopsRun}
use Rattle.ctt_program.specs.Served.{IsDone, IsStopped, Reports, said_of}
use Rattle.ctt_program.specs.Streams.{HasFailed, IsUnmarked, IsUntouched, Stream, Writes, WritesFront, stream}
use Rattle.ctt_program.specs.declared.desk.DeskPlan.{DeskPlan}

-- ---- statuses

pub fault_few : (fault : Fault) → status_of fault ≤ 3
fault_few (Contents met) = omega arith
fault_few (Usage met) = omega arith
fault_few (Machine met) = omega arith

fault_some : (fault : Fault) → 1 ≤ status_of fault
fault_some (Contents met) = omega arith
fault_some (Usage met) = omega arith
fault_some (Machine met) = omega arith

pub outcome_few : (outcome : Outcome) → outcome_status outcome ≤ 5
outcome_few Done = omega arith
outcome_few Differs = omega arith
outcome_few Unlawful = omega arith
outcome_few Incomplete = omega arith

-- no job that is done has status 2
outcome_not_two : {C : Type 0} (outcome : Outcome) → outcome_status outcome ≡ 2 → C
outcome_not_two Done two = absurd (omega (arith, two))
outcome_not_two Differs two = absurd (omega (arith, two))
outcome_not_two Unlawful two = absurd (omega (arith, two))
outcome_not_two Incomplete two = absurd (omega (arith, two))

-- ---- what a job leaves that stops

written_marked : (fault : Fault) (P Q U : Type 0) → IfUnwritten fault P (Q × U) → (status_of fault ≡ 3) ⊎ U
written_marked (Contents met) P Q U is = inr is.1
written_marked (Usage met) P Q U is = inr is.1
written_marked (Machine met) P Q U is = inl refl

unprinted_two : (fault : Fault) (P : Type 0) → MayHaveWritten fault ⊎ P → status_of fault ≡ 2 → P
unprinted_two (Contents met) P may two = absurd (omega (arith, two))
unprinted_two (Usage met) P (inl may) two = absurd may
unprinted_two (Usage met) P (inr same) two = same
unprinted_two (Machine met) P may two = absurd (omega (arith, two))

module _ {W V : Type 0} (before after : Held) (out : Stream W) (err : Stream V) where
  -- standard output fails only with status 3
  stops_marked : (job : Job) (fault : Fault) → Stops job fault before after out err → (status_of fault ≡ 3) ⊎ IsUnmarked out
  stops_marked (Answer command) fault stops = ⊎_elim (λ undone. inr (ap out.failed undone.1)) (λ cut. inl (ap status_of cut.0)) stops.cause
  stops_marked (Run instance sides script start journal) fault stops = written_marked fault _ _ _ stops.cause
  stops_marked (Desk instance sides seats start minutes) fault stops = written_marked fault _ _ _ stops.cause

  -- nothing is printed with status 2
  stops_unprinted_two : (job : Job) (fault : Fault) → Stops job fault before after out err → status_of fault ≡ 2 → IsUntouched out
  stops_unprinted_two (Answer command) fault stops two = ⊎_elim (λ undone. undone.1) (λ cut. absurd (omega (arith, ap status_of cut.0, two))) stops.cause
  stops_unprinted_two (Run instance sides script start journal) fault stops two = unprinted_two fault _ stops.printed two
  stops_unprinted_two (Desk instance sides seats start minutes) fault stops two = ⊎_elim (λ same. same) (λ cut. absurd (omega (arith, ap status_of cut.0, two))) stops.printed

  -- ---- what has ended so, with this status

  pub ended_marked : (job : Job) (status : ℕ) (ended : Result Outcome Fault) → OnOk ended (IsUnmarked out) → IfErr ended (λ fault. Stops job fault before after out err) → IfErr ended (λ fault. (status ≡ status_of fault) ⊎ (status ≡ 3))
      → (status ≡ 3) ⊎ IsUnmarked out
  ended_marked job status (Ok outcome) same stops told = inr same
  ended_marked job status (Err fault) same stops (inl is) = ⊎_elim (λ three. inl (is ∙ three)) inr (stops_marked job fault stops)
  ended_marked job status (Err fault) same stops (inr three) = inl three

  pub ended_unprinted : (job : Job) (status : ℕ) (ended : Result Outcome Fault) → IfOk ended (λ outcome. status ≡ outcome_status outcome) → IfErr ended (λ fault. Stops job fault before after out err)
      → IfErr ended (λ fault. (status ≡ status_of fault) ⊎ (status ≡ 3)) → status ≡ 2 → IsUntouched out
  ended_unprinted job status (Ok outcome) is stops told two = outcome_not_two outcome (sym is ∙ two)
  ended_unprinted job status (Err fault) is stops (inl same) two = stops_unprinted_two job fault stops (sym same ∙ two)
  ended_unprinted job status (Err fault) is stops (inr three) two = absurd (omega (arith, three, two))

-- what has ended with status 0 is done
pub ended_done : (status : ℕ) (ended : Result Outcome Fault) (P : Type 0) → OnOk ended P → IfErr ended (λ fault. (status ≡ status_of fault) ⊎ (status ≡ 3)) → status ≡ 0 → P
ended_done status (Ok outcome) P done told zero = done
ended_done status (Err fault) P done (inl same) zero = absurd (omega (arith, fault_some fault, same, zero))
ended_done status (Err fault) P done (inr three) zero = absurd (omega (arith, three, zero))

pub ended_known : (status : ℕ) (ended : Result Outcome Fault) → IfOk ended (λ outcome. status ≡ outcome_status outcome) → IfErr ended (λ fault. (status ≡ status_of fault) ⊎ (status ≡ 3)) → status ≤ 5
ended_known status (Ok outcome) is told = omega (arith, is, outcome_few outcome)
ended_known status (Err fault) is (inl same) = omega (arith, same, fault_few fault)
ended_known status (Err fault) is (inr three) = omega (arith, three)

-- what has ended so is done, or stops and is reported
pub ended_so : {W V : Type 0} (told : V → Option (List ℕ)) (broken : V → Bool) (job : Job) (point : Bool) (status : ℕ) (before after : Held) (out : Stream W) (old mid new : V) (ended : Result Outcome Fault)
    → IfOk ended (λ outcome. Does job outcome before after out (stream told broken old mid)) → IfErr ended (λ fault. Stops job fault before after out (stream told broken old mid))
    → IfOk ended (λ outcome. status ≡ outcome_status outcome) → OnOk ended (new ≡ mid) → IfErr ended (λ fault. Reports point fault status (stream told broken mid new))
    → IsDone job status before after out (stream told broken old new) ⊎ IsStopped job point status before after out (stream told broken old new)
ended_so told broken job point status before after out old mid new (Ok outcome) does stops ends same reports =
    inl (record { outcome = outcome; ends = ends; does = subst (λ e. Does job outcome before after out (stream told broken old e)) (sym same) does })
ended_so told broken job point status before after out old mid new (Err fault) does stops ends same reports = inr (record { fault = fault; mid = mid; stops = stops; reports = reports })

-- ---- what a run and a command leave

pub run_does : {V : Type 0} (r : Result Outcome Fault) (R : Type 0) (err : V) → IfOk r (λ outcome. outcome ≡ Done) → OnOk r R → IfOk r (λ outcome. (outcome ≡ Done) × R × (err ≡ err))
run_does (Ok outcome) R err done runs = (done, runs, refl)
run_does (Err fault) R err done runs = tt

pub run_stops : {W V : Type 0} (r : Result Outcome Fault) (instance : String Global) (sides : Sides) (script : String Global) (start journal : Option (String Global)) (before after : Held) (out : Stream W) (err : Stream V)
    → IfErr r (λ fault. IfUnwritten fault (HasFailed out ⊎ (IsGiven journal × AnswersScript (λ bytes. Writes out bytes) instance sides script start before)) (IsOfRun before instance sides script start fault × IsUnmarked out)) → IfErr r (λ fault. MayHaveWritten fault ⊎ IsUntouched out)
    → OnErr r (IsUntouched out ⊎ AnswersScript (λ bytes. WritesFront out bytes) instance sides script start before)
    → IfErr r (λ fault. KeptUnless fault (IsUnmarked out × IsGiven journal) (after ≡ before)) → KeepOthers journal before after → IsUntouched err
    → IfErr r (λ fault. StopsRun instance sides script start journal fault before after out err)
run_stops (Ok outcome) instance sides script start journal before after out err cause printed front unstored others quiet = tt
run_stops (Err fault) instance sides script start journal before after out err cause printed front unstored others quiet = record { cause = cause; printed = printed; front = front; quiet = quiet; unstored = unstored; others = others }

-- nothing was for standard error, so nothing was said
quiet_if : {V : Type 0} (said : List ℕ) (err : Stream V) → (said ≢ []) ⊎ IsUntouched err → said ≡ [] → IsUntouched err
quiet_if said err (inl some) none = absurd (some none)
quiet_if said err (inr same) none = same

module _ {W V : Type 0} (command : Command) (before after : Held) (task : Task) (output : Output) (out : Stream W) (err : Stream V) where
  pub command_does : (r : Result Outcome Fault) → IsLoaded command before task → Answers task output → after ≡ before → IfOk r (λ outcome. outcome ≡ output.outcome) → OnOk r (Writes out output.text.items)
      → OnOk r (HasFailed err ⊎ Writes err (string_bytes output.diagnostics)) → OnOk r ((string_bytes output.diagnostics ≢ []) ⊎ IsUntouched err) → IfOk r (λ outcome. DoesCommand command outcome before after out err)
  command_does (Ok outcome) loaded answers kept ends printed said quiet = record {
    task = task;
    is_loaded = loaded;
    output = output;
    answers = answers;
    is_delivered = record { printed = printed; said = said; quiet = quiet_if (string_bytes output.diagnostics) err quiet };
    ends = ends;
    kept = kept;
  }
  command_does (Err fault) loaded answers kept ends printed said quiet = tt

  pub command_cut : (r : Result Outcome Fault) → IsLoaded command before task → Answers task output → after ≡ before → IfErr r (λ fault. fault ≡ Machine CannotWrite) → OnErr r (WritesFront out output.text.items)
      → OnErr r (HasFailed out) → OnErr r (IsUntouched err) → IfErr r (λ fault. StopsCommand command fault before after out err)
  command_cut (Ok outcome) loaded answers kept is front failed quiet = tt
  command_cut (Err fault) loaded answers kept is front failed quiet = record {
    cause = inr (is, record { task = task; is_loaded = loaded; output = output; answers = answers; front = front; failed = failed });
    quiet = quiet;
    kept = kept;
  }

pub desk_does : {W V : Type 0} (r : Result Outcome Fault) (instance : String Global) (sides : Sides) (plan : DeskPlan) (before after : Held) (out : Stream W) (err : Stream V) → IfOk r (λ outcome. outcome ≡ Done) → OnOk r (DoesDesk instance sides plan before after out err)
    → IfOk r (λ outcome. (outcome ≡ Done) × DoesDesk instance sides plan before after out err)
desk_does (Ok outcome) instance sides plan before after out err done does = (done, does)
desk_does (Err fault) instance sides plan before after out err done does = tt

-- ---- what is reported

-- that memory ran out has no point
pub no_memory_said : (point : Bool) → said_of point (Machine NoMemory) ≡ line_of (Machine NoMemory)
no_memory_said true = refl
no_memory_said false = refl

pub reports_said : {V : Type 0} (point : Bool) (fault said : Fault) (status : ℕ) (told : V → Option (List ℕ)) (broken : V → Bool) (old new : V) (bytes : List ℕ) → (said ≡ fault) ⊎ (said ≡ Machine NoMemory) → status ≡ status_of said → bytes ≡ said_of point said
    → (broken new ≡ true) ⊎ ((broken new ≡ broken old) × Appends (told old) (told new) bytes) → Reports point fault status (stream told broken old new)
reports_said point fault said status told broken old new bytes is ends line written = record {
  said = said;
  is = is;
  ends = ends;
  says = ⊎_elim inl (λ all. inr (subst (Appends (told old) (told new)) line all.1)) written;
  marked = λ marks. ⊎_elim (λ failed. failed) (λ all. all.0 ∙ marks) written;
}

pub reported_few : (fault : Fault) (status : ℕ) → (status ≡ status_of fault) ⊎ (status ≡ 3) → status ≤ 3
reported_few fault status (inl same) = omega (arith, same, fault_few fault)
reported_few fault status (inr three) = omega (arith, three)

-- that standard output failed has status 3
pub unwritten_three : (fault : Fault) (status : ℕ) → fault ≡ Machine CannotWrite → (status ≡ status_of fault) ⊎ (status ≡ 3) → status ≡ 3
unwritten_three fault status is (inl same) = same ∙ ap status_of is
unwritten_three fault status is (inr three) = three
