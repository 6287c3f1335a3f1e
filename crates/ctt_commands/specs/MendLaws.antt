-- A desk opens with what remains of a solution, and all remains of a solution that opens a desk.
use Rattle.std.specs.Prelude.{◌≡◌, List, [], Ok}
use Rattle.ctt_problem.specs.Problem.{Problem}
use Rattle.ctt_problem.specs.Timetable.{IsTimetable}
use Rattle.ctt_problem.specs.declared.placed.Placed.{Placed}
use Rattle.ctt_edits.specs.Openings.{opening}
use Rattle.ctt_commands.specs.Mended.{mended, set_aside}

-- a desk opens with the lectures that remain of a timetable, and begins with these
abbrev pub MendedOpens : Type 0
MendedOpens = (i : Problem) (ls : List Placed) → IsTimetable i ls → opening i (mended i ls) ≡ Ok (mended i ls)

-- of lectures that open a desk none is set aside, and all remain, in their order
abbrev pub NoneIsSetAside : Type 0
NoneIsSetAside = (i : Problem) (ls t : List Placed) → opening i ls ≡ Ok t → (set_aside i ls ≡ []) × (mended i ls ≡ ls)
