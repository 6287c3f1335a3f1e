-- Why a desk is not made.
use Rattle.std.specs.Prelude.{◌≡◌, List, Err}
use Rattle.ctt_problem.specs.Problem.{Problem}
use Rattle.ctt_problem.specs.declared.placed.Placed.{Placed}
use Rattle.ctt_edits.specs.Openings.{opening}
use Rattle.ctt_core.specs.declared.desk_fault.DeskFault.{DeskFault}
use Rattle.ctt_core.specs.declared.desk_fault.DeskFault.TheVariants.{Unlawful as UnlawfulDesk, NoMemory as OutOfMemory}
use Rattle.ctt_desk.specs.declared.shared_fault.SharedFault.{SharedFault}
use Rattle.ctt_desk.specs.declared.shared_fault.SharedFault.TheVariants.{Unlawful, NoPlace, NoMemory}

-- the fault of a single-threaded desk, as that of a shared one
abbrev pub shared : DeskFault → SharedFault
shared (UnlawfulDesk at f) = Unlawful at f
shared OutOfMemory = NoMemory

-- why an opening was refused: the first lecture that cannot be placed, and why; or out of memory
abbrev pub IsUnlawful : Problem → List Placed → SharedFault → Type 0
IsUnlawful i ls (Unlawful at f) = opening i ls ≡ Err (at, f)
IsUnlawful i ls NoPlace = ⊥
IsUnlawful i ls NoMemory = Unit {0}

-- why a desk with a lawful opening was not made: a planner got no place, or memory ran out
abbrev pub IsWant : SharedFault → Type 0
IsWant (Unlawful at f) = ⊥
IsWant NoPlace = Unit {0}
IsWant NoMemory = Unit {0}
