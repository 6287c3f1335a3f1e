use Rattle.ctt_problem.specs.Problem.{course_count}
use Rattle.ctt_edits.specs.RowSets.{has_course}
use Rattle.ctt_edits.specs.declared.row.Row.TheVariants.{Course}
use Rattle.ctt_edits.proofs.MarkedRows.{row_more, row_done}
use Rattle.ctt_edits.proofs.rows_read.RowsRead.list_courses.Goals as goal

pub loop-course-preserved : goal.loop-course-preserved
loop-course-preserved c =
    row_more Course (has_course c.args.self.now) c.loop-course.from (course_count c.args.instance.now) c.in-Some.course c.get-from.result c.loop-course.rows.items c.push.new.self.items c.args.rows.now.items
    c.in-Some.ensures c.get-from.ensures c.loop-course.invariant.0 c.in_ok-push.ensures.items

pub returns : goal.returns
returns c =
    row_done Course (has_course c.args.self.now) c.loop-course.from (course_count c.args.instance.now) c.loop-course.rows.items c.args.rows.now.items
    c.loop-course.invariant.1 c.in_default.ensures c.loop-course.invariant.0
