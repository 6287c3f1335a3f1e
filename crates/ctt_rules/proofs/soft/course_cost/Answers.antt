use Rattle.std.proofs.Common.{◌≤◌, arith, length}
use Rattle.ctt_rules.proofs.TimetableLemmas.{row_is_short}
use Rattle.ctt_rules.proofs.soft.course_cost.Goals as goal

pub capacity-requires-clause-few : goal.capacity-requires-clause-few
capacity-requires-clause-few c = rw c.course_row-row.ensures.row (omega (arith, row_is_short c.args.instance.now c.args.timetable.now c.requires.timetable c.args.course))

pub returns-clause-bound : goal.returns-clause-bound
returns-clause-bound c =
    let short : length c.course_row-row.result.now ≤ 2000 = rw c.course_row-row.ensures.row (omega (arith, row_is_short c.args.instance.now c.args.timetable.now c.requires.timetable c.args.course)) in
    omega (arith, short)
