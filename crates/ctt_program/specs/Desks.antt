-- What the command `desk` does, and why it stops.
use Rattle.std.specs.Prelude.{◌≡◌, ◌⊎◌, ◌++◌, ℕ, Bool, false, true, List, [], ◌∷◌, Option, Ok, Some, codes, is_some, zero, suc}
use Rattle.std.specs.Global.{Global}
use Rattle.std.specs.String.{string_bytes}
use Rattle.std.specs.declared.string.String.{String}
use Rattle.ctt_problem.specs.Problem.{Problem}
use Rattle.ctt_problem.specs.declared.placed.Placed.{Placed}
use Rattle.ctt_edits.specs.Openings.{opening}
use Rattle.ctt_seat.specs.Attended.{IsCrewText}
use Rattle.ctt_office.specs.declared.office_fault.OfficeFault.{OfficeFault}
use Rattle.ctt_office.specs.declared.office_fault.OfficeFault.TheVariants as office
use Rattle.ctt_files.specs.Faults.{IfUnwritten}
use Rattle.ctt_files.specs.Refusals.{IsOfInstanceOr}
use Rattle.ctt_files.specs.Texts.{Held, IsInstanceIn, IsStart}
use Rattle.ctt_files.specs.declared.fault.Fault.{Fault}
use Rattle.ctt_files.specs.declared.fault.Fault.TheVariants.{Machine, Usage}
use Rattle.ctt_files.specs.declared.fault.MachineFault.TheVariants.{CannotRead, CannotWrite, MinutesExist, NoMemory, NoPlace, NoThread}
use Rattle.ctt_files.specs.declared.fault.UsageFault.TheVariants.{BadSeats}
use Rattle.ctt_files.specs.declared.sides.Sides.{Sides}
use Rattle.ctt_commands.specs.Refusals.{IsOfOpening, IsOfWork}
use Rattle.ctt_program.specs.Seats.{AreBadSeats, has_standard}
use Rattle.ctt_program.specs.Streams.{HasFailed, IsUnmarked, IsUntouched, Stream, Writes, WritesFront, since, until}
use Rattle.ctt_program.specs.declared.desk.DeskPlan.{DeskPlan}

-- the lectures of the start can be placed, one by one, and make this timetable
pub record IsOpenOn (problem : Problem) (start : Option (String Global)) (held : Held) (t0 : List Placed) : Type 0 where
  pub lectures : List Placed
  pub is_start : IsStart problem held start lectures
  pub opens : opening problem lectures ≡ Ok t0

-- the last lines of a desk of the instance that opens with the start: the number of accepted
-- drafts, and the costs of the timetable that they leave in some order of commits
pub record AreLastLines (problem : Problem) (start : Option (String Global)) (held : Held) (lines : List ℕ) : Type 0 where
  pub t0 : List Placed
  pub opens : IsOpenOn problem start held t0
  pub is_last : IsCrewText problem t0 [] lines

-- the warning before the first line of a seat is read, if no minutes are written; it may fail
abbrev pub Warns : {V : Type 0} → Bool → Stream V → Type 0
Warns true err = IsUntouched err
Warns false err = HasFailed err ⊎ Writes err (codes "timedesk: no minutes: what is committed ends with the desk\n")

-- these lines are written: on standard output, or, if that is a seat, on standard error, and
-- nothing on the other
abbrev pub TellsLines : {W V : Type 0} → Bool → List ℕ → Stream W → Stream V → Type 0
TellsLines false lines out err = Writes out lines × IsUntouched err
TellsLines true lines out err = IsUntouched out × (Writes err lines × IsUnmarked err)

-- a desk ends well: after the warning, if it is due, its last lines are written, and no file is
-- changed but those of the seats and the minutes
pub record DoesDesk {W V : Type 0} (instance : String Global) (sides : Sides) (plan : DeskPlan) (before after : Held) (out : Stream W) (err : Stream V) : Type 0 where
  pub problem : Problem
  pub is_instance : IsInstanceIn before instance sides problem
  pub lines : List ℕ
  pub are_last : AreLastLines problem plan.start before lines
  pub warned : V
  pub warns : Warns (is_some plan.minutes) (until err warned)
  pub tells : TellsLines (has_standard plan.seats.items) lines out (since err warned)
  pub kept : after ≡ before

-- ---- why a desk stops

-- the file with the lines of this seat cannot be read
abbrev pub IsUnreadAt : List ℕ → Fault → Type 0
IsUnreadAt seat fault = (name : String Global) × (fault ≡ Machine (CannotRead name)) × (string_bytes name ≡ seat ++ codes ".in")

-- the file with the lines of one of these seats cannot be read
abbrev pub IsUnread : List (String Global) → Fault → Type 0
IsUnread [] fault = ⊥
IsUnread (seat ∷ seats) fault = IsUnreadAt (string_bytes seat) fault ⊎ IsUnread seats fault

-- the file with the lines of the seat at this index cannot be read
abbrev pub IsUnreadOf : List (String Global) → ℕ → Fault → Type 0
IsUnreadOf [] place fault = ⊥
IsUnreadOf (seat ∷ seats) zero fault = IsUnreadAt (string_bytes seat) fault
IsUnreadOf (seat ∷ seats) (suc place) fault = IsUnreadOf seats place fault

-- the reported fault for a fault of a desk with these seats, or that memory ran out for a file name
abbrev pub IsToldOf : List (String Global) → OfficeFault → Fault → Type 0
IsToldOf seats office.NoPlace told = told ≡ Machine NoPlace
IsToldOf seats office.NoThread told = told ≡ Machine NoThread
IsToldOf seats (office.CannotRead place) told = IsUnreadOf seats place told ⊎ (told ≡ Machine NoMemory)
IsToldOf seats office.CannotWrite told = told ≡ Machine CannotWrite
IsToldOf seats office.NotWritten told = told ≡ Machine CannotWrite
IsToldOf seats office.NoMemory told = told ≡ Machine NoMemory

-- a fault of the start, of the planners' work, or of the lines of a seat
abbrev pub IsOfSeats : DeskPlan → Held → Problem → Fault → Type 0
IsOfSeats plan held problem fault = IsOfOpening plan.start held problem fault ⊎ (IsOfWork fault ⊎ IsUnread plan.seats.items fault)

-- the file for minutes is not empty
abbrev pub IsOfOldMinutes : Option (String Global) → Fault → Type 0
IsOfOldMinutes minutes fault = (name : String Global) × (minutes ≡ Some name) × (fault ≡ Machine (MinutesExist name))

-- the seats of a desk are refused, or its minutes exist
abbrev pub IsOfPlan : DeskPlan → Fault → Type 0
IsOfPlan plan fault = ((fault ≡ Usage BadSeats) × AreBadSeats plan.seats.items) ⊎ IsOfOldMinutes plan.minutes fault

-- a fault of a desk other than that something cannot be written
abbrev pub IsOfDesk : Held → String Global → Sides → DeskPlan → Fault → Type 0
IsOfDesk held instance sides plan fault = IsOfPlan plan fault ⊎ IsOfInstanceOr (IsOfSeats plan) held instance sides fault

-- the last lines of a desk are printed only in part, since standard output fails
pub record AreCutShort {W : Type 0} (instance : String Global) (sides : Sides) (plan : DeskPlan) (held : Held) (out : Stream W) : Type 0 where
  pub problem : Problem
  pub is_instance : IsInstanceIn held instance sides problem
  pub lines : List ℕ
  pub are_last : AreLastLines problem plan.start held lines
  pub front : WritesFront out lines
  pub failed : HasFailed out

-- a desk stops with this fault, before or after the warning, and no file is changed but those of the
-- seats and the minutes
pub record StopsDesk {W V : Type 0} (instance : String Global) (sides : Sides) (plan : DeskPlan) (fault : Fault) (before after : Held) (out : Stream W) (err : Stream V) : Type 0 where
  pub cause : IfUnwritten fault (Unit {0}) (IsOfDesk before instance sides plan fault × IsUnmarked out)
  pub printed : IsUntouched out ⊎ ((fault ≡ Machine CannotWrite) × AreCutShort instance sides plan before out)
  pub warned : IsUntouched err ⊎ (HasFailed err ⊎ Warns (is_some plan.minutes) err)
  pub kept : after ≡ before
