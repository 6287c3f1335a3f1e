-- The value of a sheet, the penalty difference of a change, and the invariant of views.
use Rattle.std.specs.Prelude.{◌≡◌, true, ℤ, pos, ◌-ℤ◌, List}
use Rattle.ctt_problem.specs.Problem.{Problem}
use Rattle.ctt_problem.specs.declared.placed.Placed.{Placed}
use Rattle.ctt_rules.specs.Hard.{Lawful}
use Rattle.ctt_rules.specs.Penalty.{penalty, total}
use Rattle.ctt_board.specs.Changes.{apply, is_change, CellsFit}
use Rattle.ctt_board.specs.declared.cell.Cell.{Cell}

-- an instance and a timetable of it
pub record Board : Type 0 where
  pub problem : Problem
  pub list : List Placed

-- the penalty after the change minus the penalty before it
abbrev pub delta : Problem → List Placed → List Cell → ℤ
delta i t cells = pos (total (penalty i (apply cells t))) -ℤ pos (total (penalty i t))

-- the cells fit the timetable t of the problem j, which is i, and leave it lawful
pub record IsAfter (i j : Problem) (t : List Placed) (cells : List Cell) : Type 0 where
  pub same : j ≡ i
  pub change : is_change cells ≡ true
  pub fit : CellsFit cells t
  pub lawful : Lawful i (apply cells t)
