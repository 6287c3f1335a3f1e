use Rattle.std.proofs.Common.{◌≡◌, ◌∙◌, List}
use Rattle.ctt_problem.specs.Problem.{Problem}
use Rattle.ctt_problem.specs.Timetable.{course_row}
use Rattle.ctt_problem.specs.declared.placed.Placed.{Placed}
use Rattle.ctt_board.proofs.RowLemmas.{row_is_timetable, cost_of_row}
use Rattle.ctt_edits.proofs.showing.own_cost.Goals as goal

pub course_cost-requires-clause-timetable : goal.course_cost-requires-clause-timetable
course_cost-requires-clause-timetable g c =
    let t : List Placed = g.S.Rooms.list c.args.sheet.now in
    let row : c.as_slice.result.now ≡ course_row c.args.course t = c.as_slice.ensures.value ∙ c.in_ok-row.ensures in
    rw (c.instance.ensures, row) (row_is_timetable (g.S.Rooms.problem c.args.sheet.now) t c.args.course c.lawful.ensures.timetable)

pub returns : goal.returns
returns g c =
    let i : Problem = g.S.Rooms.problem c.args.sheet.now in
    let t : List Placed = g.S.Rooms.list c.args.sheet.now in
    let row : c.as_slice.result.now ≡ course_row c.args.course t = c.as_slice.ensures.value ∙ c.in_ok-row.ensures in
    c.course_cost.ensures.value ∙ cost_of_row i c.instance.result.now t c.as_slice.result.now c.args.course c.instance.ensures row
