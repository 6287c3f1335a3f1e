use Rattle.std.proofs.Common.{◌≡◌, ◌∙◌, ap, arith}
use Rattle.ctt_rules.specs.Penalty.{total, course_cost}
use Rattle.ctt_board.proofs.RowLemmas.{row_is_timetable, cost_of_row}
use Rattle.ctt_board.proofs.CostLemmas.{course_cost_small}
use Rattle.ctt_grid.proofs.delta.course_cost.Goals as goal

pub course_cost-requires-clause-timetable : goal.course_cost-requires-clause-timetable
course_cost-requires-clause-timetable g c = rw (c.instance-instance.ensures, c.as_slice.ensures.value, c.row-row.ensures) (row_is_timetable c.args.after.now.problem c.args.after.now.list c.args.course c.lawful.ensures.timetable)

pub returns-clause-value : goal.returns-clause-value
returns-clause-value g c =
    c.total.ensures
    ∙ ap total (c.course_cost.ensures.value ∙ cost_of_row c.args.after.now.problem c.instance-instance.result.now c.args.after.now.list c.as_slice.result.now c.args.course c.instance-instance.ensures (c.as_slice.ensures.value ∙ c.row-row.ensures))

pub returns-clause-bound : goal.returns-clause-bound
returns-clause-bound g c =
    let i = c.args.after.now.problem in
    let t = c.args.after.now.list in
    let value : c.total.result ≡ total (course_cost i t c.args.course) = c.total.ensures
    ∙ ap total (c.course_cost.ensures.value ∙ cost_of_row i c.instance-instance.result.now t c.as_slice.result.now c.args.course c.instance-instance.ensures (c.as_slice.ensures.value ∙ c.row-row.ensures)) in
    omega (arith, value, course_cost_small i (rw c.instance-instance.ensures at c.limits_hold.ensures) t c.lawful.ensures.timetable c.args.course)
