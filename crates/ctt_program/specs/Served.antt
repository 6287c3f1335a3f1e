-- What the program does for the words of its command line, and if it has none.
use Rattle.std.specs.Prelude.{◌≡◌, ◌⊎◌, ◌++◌, Bool, false, true, ℕ, List, [], if◌then◌else◌, map}
use Rattle.std.specs.Borrow.{Bor}
use Rattle.std.specs.String.{string_bytes}
use Rattle.ctt_files.specs.Faults.{line_of, point_of, status_of}
use Rattle.ctt_files.specs.Outcomes.{outcome_status}
use Rattle.ctt_files.specs.Texts.{Held}
use Rattle.ctt_files.specs.declared.fault.Fault.{Fault}
use Rattle.ctt_files.specs.declared.fault.Fault.TheVariants.{Machine, Usage}
use Rattle.ctt_files.specs.declared.fault.MachineFault.TheVariants.{CannotWrite, NoMemory}
use Rattle.ctt_files.specs.declared.fault.UsageFault.TheVariants.{Words, WordsNotText}
use Rattle.ctt_files.specs.declared.outcome.Outcome.{Outcome}
use Rattle.ctt_words.specs.Jobs.{IsAskedOf, IsFaultOf, faults_of}
use Rattle.ctt_words.specs.declared.job.Asked.{Asked}
use Rattle.ctt_words.specs.declared.job.Job.{Job}
use Rattle.ctt_words.specs.declared.job.WordsFault.{WordsFault}
use Rattle.ctt_words.specs.declared.job.WordsFault.TheVariants as no
use Rattle.ctt_program.specs.Jobs.{Does, Stops}
use Rattle.ctt_program.specs.Streams.{HasFailed, IsUntouched, Stream, Writes, WritesFront, since, until}

-- the contents of borrowed words
abbrev pub texts : List (Bor (List ℕ)) → List (List ℕ)
texts words = map (λ word. word.now) words

-- what is said of a fault: its line, and where and why a text is refused if that is asked for
abbrev pub said_of : Bool → Fault → List ℕ
said_of point fault = line_of fault ++ (if point then point_of fault else [])

-- a fault is reported: standard error takes what is said of it, unless it fails, and the exit status
-- is that of the fault; if memory runs out for what is said, that is reported instead
pub record Reports {V : Type 0} (point : Bool) (fault : Fault) (status : ℕ) (err : Stream V) : Type 0 where
  pub said : Fault
  pub is : (said ≡ fault) ⊎ (said ≡ Machine NoMemory)
  pub ends : status ≡ status_of said
  pub says : HasFailed err ⊎ Writes err (said_of point said)
  pub marked : err.failed err.old ≡ true → HasFailed err

-- a job is done, with the exit status of its outcome
pub record IsDone {W V : Type 0} (job : Job) (status : ℕ) (before after : Held) (out : Stream W) (err : Stream V) : Type 0 where
  pub outcome : Outcome
  pub ends : status ≡ outcome_status outcome
  pub does : Does job outcome before after out err

-- a job stops with a fault, which is then reported
pub record IsStopped {W V : Type 0} (job : Job) (point : Bool) (status : ℕ) (before after : Held) (out : Stream W) (err : Stream V) : Type 0 where
  pub fault : Fault
  pub mid : V
  pub stops : Stops job fault before after out (until err mid)
  pub reports : Reports point fault status (since err mid)

-- words that ask for no job: their help is printed, unless standard output fails, or why they are
-- refused is reported, or that memory ran out
abbrev pub IsTurned : {W V : Type 0} → WordsFault → ℕ → Stream W → Stream V → Type 0
IsTurned (no.Help text) status out err = ((status ≡ 0) × Writes out (string_bytes text) × IsUntouched err)
    ⊎ (HasFailed out × WritesFront out (string_bytes text) × Reports false (Machine CannotWrite) status err)
IsTurned (no.Refused text) status out err = IsUntouched out × Reports false (Usage (Words text)) status err
IsTurned no.NoMemory status out err = IsUntouched out × Reports false (Machine NoMemory) status err

-- what the program has done for these words: they ask for a job, which is done or stops, or for
-- none, and then no file is changed
abbrev pub IsServed : {W V : Type 0} → List (List ℕ) → ℕ → Held → Held → Stream W → Stream V → Type 0
IsServed words status before after out err =
    ((faults_of words ≡ []) × ((asked : Asked) × IsAskedOf words asked
    × (IsDone asked.job status before after out err ⊎ IsStopped asked.job asked.point status before after out err)))
    ⊎ ((fault : WordsFault) × IsFaultOf words fault × (after ≡ before) × IsTurned fault status out err)

-- the words could not be had, since one is not UTF-8 or memory ran out; this is reported, and
-- nothing is done
pub record IsUnserved {W V : Type 0} (status : ℕ) (before after : Held) (out : Stream W) (err : Stream V) : Type 0 where
  pub fault : Fault
  pub is : (fault ≡ Usage WordsNotText) ⊎ (fault ≡ Machine NoMemory)
  pub unprinted : IsUntouched out
  pub reports : Reports false fault status err
  pub kept : after ≡ before
