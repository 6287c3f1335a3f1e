use Rattle.std.proofs.Common.{◌≡◌, ◌≤◌, ◌-◌, ◌++◌, map}
use Rattle.ctt_problem.specs.Lists.{below}
use Rattle.ctt_problem.specs.Problem.{course_count}
use Rattle.ctt_edits.specs.RowSets.{has_course}
use Rattle.ctt_edits.specs.declared.row.Row.TheVariants.{Course}
use Rattle.ctt_edits.proofs.rows_read.RowsRead.list_courses.Given as goal

abbrev pub invariant-loop-course : goal.invariant-loop-course
invariant-loop-course l = (l.rows.items ≡ l.initial.rows.items ++ map Course (below (has_course l.self) l.from)) × (l.from ≤ course_count l.instance)

abbrev pub decreases-loop-course : goal.decreases-loop-course
decreases-loop-course l = course_count l.instance - l.from
