use Rattle.std.proofs.Common.{◌∙◌}
use Rattle.ctt_problem.specs.Problem.{course_count}
use Rattle.ctt_edits.proofs.TaughtLemmas.{below_all, above_none}
use Rattle.ctt_edits.proofs.reading.mark_all.Goals as goal

pub returns-clause-marked : goal.returns-clause-marked
returns-clause-marked c = λ n lt. c.mark_below.ensures n ∙ below_all _ n c.courses.result (course_count c.args.instance.now) c.courses.ensures.exact lt

pub returns-clause-past : goal.returns-clause-past
returns-clause-past c = λ n le. c.mark_below.ensures n ∙ above_none _ n c.courses.result (course_count c.args.instance.now) c.courses.ensures.exact le
