use Rattle.std.proofs.Common.{◌≡◌}
use Rattle.ctt_problem.specs.Problem.{slot_count}
use Rattle.ctt_board.specs.Changes.{room_at}
use Rattle.ctt_board.specs.Cells.{rows_below}
use Rattle.ctt_grid.proofs.grid_sheet.GridSheetTimetable.list.Given as goal

abbrev pub invariant-loop-course : goal.invariant-loop-course
invariant-loop-course l = l.list.items ≡ rows_below (λ c s. room_at c s l.self.list) (slot_count l.self.problem) l.course
