use Rattle.std.proofs.Common.{◌∙◌, ◌==◌, ◌||◌, ap}
use Rattle.ctt_problem.specs.Lists.{has}
use Rattle.ctt_problem.specs.Marks.{is_marked}
use Rattle.ctt_problem.specs.Problem.{course_of, course_count}
use Rattle.ctt_edits.proofs.PastLemmas.{has_past, no_more}
use Rattle.ctt_edits.proofs.TaughtLemmas.{has_below}
use Rattle.ctt_edits.proofs.reading.mark_taught.Goals as goal

pub returns-clause-marked : goal.returns-clause-marked
returns-clause-marked c = λ n lt.
    c.mark_courses.ensures n
    ∙ ap (λ b. is_marked c.args.marks.now n || b) (ap (has n) c.taught_by.ensures.exact ∙ has_below (λ k. (course_of c.args.instance.now k).teacher == c.args.teacher) (course_count c.args.instance.now) n lt)

pub returns-clause-past : goal.returns-clause-past
returns-clause-past c = λ n le. c.mark_courses.ensures n ∙ no_more _ _ (has_past (course_count c.args.instance.now) n _ le c.taught_by.ensures.within)
