use Rattle.std.proofs.Common.{◌≡◌, ◌≤◌, ◌-◌}
use Rattle.ctt_problem.specs.Problem.{course_count}
use Rattle.ctt_board.specs.Changes.{room_at}
use Rattle.ctt_board.specs.Cells.{column_below}
use Rattle.ctt_grid.proofs.grid_sheet.GridSheetTimetable.slot_row.Given as goal

abbrev pub invariant-loop-course : goal.invariant-loop-course
invariant-loop-course l = record {
  so_far : l.row.items ≡ column_below (λ c. room_at c l.slot l.self.list) l.slot l.from;
  within : l.from ≤ course_count l.self.problem;
}

abbrev pub decreases-loop-course : goal.decreases-loop-course
decreases-loop-course l = course_count l.self.problem - l.from
