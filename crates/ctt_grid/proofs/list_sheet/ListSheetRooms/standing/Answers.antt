use Rattle.std.proofs.Common.{◌∙◌, ap}
use Rattle.ctt_problem.specs.Timetable.{has_lecture}
use Rattle.ctt_board.specs.Boards.{Board}
use Rattle.ctt_grid.proofs.CoursesInSlotLemmas.{stands_there}
use Rattle.ctt_grid.proofs.list_sheet.ListSheetRooms.standing.Goals as goal

pub returns : goal.returns
returns c = λ course.
    c.courses_in_slot.ensures course
    ∙ ap (has_lecture course c.args.slot) (c.deref.ensures.value ∙ ap (λ (b : Board). b.list) c.self.view_is)
    ∙ stands_there course c.args.slot c.args.self.now.list
