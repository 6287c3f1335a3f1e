use Rattle.std.proofs.Common.{◌≡◌, ◌≤◌}
use Rattle.arrayvec.specs.ArrayVec.{array_vec_len}
use Rattle.ctt_board.specs.Changes.{room_at}
use Rattle.ctt_board.specs.Cells.{row_below}
use Rattle.ctt_grid.proofs.delta.row.Given as goal

abbrev pub invariant-loop-number : goal.invariant-loop-number
invariant-loop-number g l = record {
  so_far : l.row.items ≡ row_below (λ s. room_at l.course s l.after.list) l.course l.number;
  few : array_vec_len l.row ≤ l.number;
}
