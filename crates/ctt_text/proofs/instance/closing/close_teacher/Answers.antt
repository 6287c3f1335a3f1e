use Rattle.std.proofs.Common.{◌≤◌, length, subst}
use Rattle.ctt_problem.specs.Marks.{is_marked}
use Rattle.ctt_text.proofs.ClosingLemmas.{adds_taught}
use Rattle.ctt_text.proofs.instance.closing.close_teacher.Goals as goal

pub returns : goal.returns
returns c = adds_taught c.args.instance.now c.args.closed.now c.loop-course.closed c.args.teacher c.loop-course.course-index (is_marked c.args.slots.now)
    (subst (λ list. length list ≤ c.loop-course.course-index) c.taught_by-course-items.ensures.exact c.loop-course-test.false) c.loop-course.invariant
