-- The faults of running a script.
use Rattle.std.specs.Prelude.{◌≡◌, ◌<◌, ℕ, List, length, Option, IfSome, Err}
use Rattle.ctt_problem.specs.Problem.{Problem}
use Rattle.ctt_problem.specs.declared.placed.Placed.{Placed}
use Rattle.ctt_edits.specs.Openings.{opening}
use Rattle.ctt_core.specs.declared.desk_fault.DeskFault.{DeskFault}
use Rattle.ctt_core.specs.declared.desk_fault.DeskFault.TheVariants as desk_fault
use Rattle.ctt_files.specs.declared.input.InputFault.{InputFault}
use Rattle.ctt_files.specs.declared.input.InputFault.TheVariants as input_fault
use Rattle.ctt_script.specs.declared.script_fault.ScriptFault.{ScriptFault}
use Rattle.ctt_script.specs.declared.script_fault.ScriptFault.TheVariants as script_fault

-- the fault of the run for a fault of its desk
abbrev pub of_desk : DeskFault → ScriptFault
of_desk (desk_fault.Unlawful at fault) = script_fault.Unlawful at fault
of_desk desk_fault.NoMemory = script_fault.NoMemory

-- the fault of the run for a fault of its input
abbrev pub of_input : InputFault → ScriptFault
of_input input_fault.Read = script_fault.Read
of_input input_fault.TooLong = script_fault.TooLong
of_input input_fault.NoMemory = script_fault.NoMemory

-- the cause of a fault: the opening cannot be placed, or the input, if its bytes are known, is too
-- long; any other fault may come at any time
abbrev pub IsRunCause : Problem → List Placed → Option (List ℕ) → ScriptFault → Type 0
IsRunCause i lectures left (script_fault.Unlawful at fault) = opening i lectures ≡ Err (at, fault)
IsRunCause i lectures left script_fault.TooLong = IfSome left (λ text. 67108864 < length text)
IsRunCause i lectures left fault = Unit {0}

-- the faults after which a part of the answers may have been written
abbrev pub MayHavePrinted : ScriptFault → Type 0
MayHavePrinted script_fault.Write = Unit {0}
MayHavePrinted script_fault.NoMemory = Unit {0}
MayHavePrinted fault = ⊥
