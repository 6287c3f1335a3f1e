use Rattle.std.proofs.Common.{◌≡◌, ◌≤◌, ◌++◌}
use Rattle.std.specs.Vec.{vec_capacity}
use Rattle.ctt_board.specs.Changes.{room_at}
use Rattle.ctt_board.specs.Cells.{row_below}
use Rattle.ctt_grid.proofs.grid_sheet.GridSheet.append_course.Given as goal

abbrev pub invariant-loop-number : goal.invariant-loop-number
invariant-loop-number l = record {
  so_far : l.list.items ≡ l.initial.list.items ++ row_below (λ s. room_at l.course s l.self.list) l.course l.number;
  room : vec_capacity l.initial.list ≤ vec_capacity l.list;
}
