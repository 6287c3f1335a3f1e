-- Changes that are made in order.
use Rattle.std.proofs.Common.{◌≡◌, List}
use Rattle.ctt_problem.specs.Problem.{Problem}
use Rattle.ctt_problem.specs.declared.placed.Placed.{Placed}
use Rattle.ctt_board.specs.declared.cell.Cell.{Cell}
use Rattle.ctt_board.specs.Changes.{ChangesFit, apply_all}

-- of these changes to the timetable t, the rest is still to be made, to the timetable u
pub record Settling (i j : Problem) (t u : List Placed) (all rest : List (List Cell)) : Type 0 where
  pub same : j ≡ i
  pub fit : ChangesFit j rest u
  pub ends : apply_all rest u ≡ apply_all all t
