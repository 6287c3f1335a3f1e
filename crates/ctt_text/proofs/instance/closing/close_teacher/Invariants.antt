use Rattle.std.proofs.Common.{take, ◌&&◌}
use Rattle.ctt_problem.specs.Lists.{has}
use Rattle.ctt_problem.specs.Marks.{is_marked}
use Rattle.ctt_problem.specs.BitRows.{AddsMarks}
use Rattle.ctt_problem.specs.Taught.{courses_taught_by}
use Rattle.ctt_text.proofs.instance.closing.close_teacher.Given as goal

-- the marks in the rows of the courses so far
abbrev pub invariant-loop-course : goal.invariant-loop-course
invariant-loop-course l = AddsMarks l.fn.closed l.closed (λ c s. has c (take l.course-index (courses_taught_by l.instance l.fn.teacher)) && is_marked l.slots s)
