-- Lectures that are placed one by one, in the order of a list.
use Rattle.std.specs.Prelude.{ℕ, ◌+◌, List, [], ◌∷◌, Option, Some, None, Result, Ok, Err}
use Rattle.ctt_problem.specs.Problem.{Problem}
use Rattle.ctt_problem.specs.declared.placed.Placed.{Placed}
use Rattle.ctt_edits.specs.Edits.{edit_fault, edited}
use Rattle.ctt_edits.specs.declared.edit.Edit.TheVariants.{Place}
use Rattle.ctt_edits.specs.declared.fault.EditFault.{EditFault}

-- the number n and the fault of a lecture that cannot be placed, or else the result for the others
abbrev pub or_rest : Option EditFault → ℕ → Result (List Placed) (ℕ × EditFault) → Result (List Placed) (ℕ × EditFault)
or_rest None n others = others
or_rest (Some f) n others = Err (n, f)

-- the timetable t with these lectures added, numbered from n, or the number and fault of the first
-- that cannot be placed
abbrev pub placed_on : Problem → List Placed → ℕ → List Placed → Result (List Placed) (ℕ × EditFault)
placed_on i t n [] = Ok t
placed_on i t n (l ∷ ls) = or_rest (edit_fault i t (Place l.course l.slot l.room)) n (placed_on i (edited t (Place l.course l.slot l.room)) (n + 1) ls)

-- the timetable made by placing the lectures in order, or the number, from 1, and the fault of the
-- first that cannot be placed
abbrev pub opening : Problem → List Placed → Result (List Placed) (ℕ × EditFault)
opening i ls = placed_on i [] 1 ls
