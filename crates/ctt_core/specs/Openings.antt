-- Why an opening timetable is refused.
use Rattle.std.specs.Prelude.{◌≡◌, List, Option, Some, None, Err}
use Rattle.ctt_problem.specs.Problem.{Problem}
use Rattle.ctt_problem.specs.declared.placed.Placed.{Placed}
use Rattle.ctt_edits.specs.Edits.{edited}
use Rattle.ctt_edits.specs.Openings.{opening}
use Rattle.ctt_edits.specs.declared.edit.Edit.TheVariants.{Place}
use Rattle.ctt_edits.specs.declared.fault.EditFault.{EditFault}
use Rattle.ctt_core.specs.declared.desk_fault.DeskFault.{DeskFault}
use Rattle.ctt_core.specs.declared.desk_fault.DeskFault.TheVariants.{Unlawful, NoMemory}

-- the first lecture that cannot be placed, with its fault; memory may run out at any time
abbrev pub IsDeskFault : Problem → List Placed → DeskFault → Type 0
IsDeskFault i ls (Unlawful at f) = opening i ls ≡ Err (at, f)
IsDeskFault i ls NoMemory = Unit {0}

-- the timetable u is t with the lecture placed, or t if there was a fault
abbrev pub IsPlaced : List Placed → List Placed → Placed → Option EditFault → Type 0
IsPlaced t u l None = u ≡ edited t (Place l.course l.slot l.room)
IsPlaced t u l (Some f) = u ≡ t
