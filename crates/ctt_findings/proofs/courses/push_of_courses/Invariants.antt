use Rattle.std.proofs.Common.{◌≡◌, ◌++◌}
use Rattle.std.specs.Option.{option_to_list}
use Rattle.ctt_problem.specs.Timetable.{course_row}
use Rattle.ctt_findings.specs.Findings.{for_each}
use Rattle.ctt_findings.proofs.courses.push_of_courses.Given as goal

abbrev pub invariant-loop-number : goal.invariant-loop-number
invariant-loop-number g l = l.found.items ≡ l.initial.found.items ++ for_each (λ c. option_to_list (g.K.OfCourse.finding l.instance c (course_row c l.timetable))) l.number
