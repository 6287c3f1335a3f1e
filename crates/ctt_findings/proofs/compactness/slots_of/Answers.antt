use Rattle.std.proofs.Common.{◌∙◌, ap}
use Rattle.std.specs.List.{list_any}
use Rattle.std.proofs.lemmas.List.{take_all}
use Rattle.ctt_problem.specs.Problem.{members}
use Rattle.ctt_problem.specs.Timetable.{course_row}
use Rattle.ctt_rules.specs.Neighbours.{busy}
use Rattle.ctt_rules.proofs.CurriculumLemmas.{busy_lectures}
use Rattle.ctt_findings.proofs.compactness.slots_of.Goals as goal

pub returns : goal.returns
returns c s =
    c.loop-course.invariant s
    ∙ ap (list_any (λ m. busy (course_row m c.args.rows.now) s)) (take_all c.loop-course.course-index c.members-course-items.result.now c.loop-course-test.false ∙ c.members-course-items.ensures.exact)
    ∙ busy_lectures (members c.args.instance.now c.args.curriculum) c.args.rows.now s
