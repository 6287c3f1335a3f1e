use Rattle.std.proofs.Common.{◌∙◌, subst}
use Rattle.ctt_problem.specs.Problem.{course_count}
use Rattle.ctt_edits.specs.Looks.{LookFits}
use Rattle.ctt_edits.proofs.PastLemmas.{has_past, price_past, no_more}
use Rattle.ctt_edits.proofs.reading.mark_courses_of_look.Goals as goal

pub returns-in-Curriculum-clause-past : goal.returns-in-Curriculum-clause-past
returns-in-Curriculum-clause-past c = λ n le. c.mark_courses.ensures n ∙ no_more _ _ (has_past (course_count c.args.instance.now) n _ le c.members.ensures.within.0)

pub returns-in-Price-clause-past : goal.returns-in-Price-clause-past
returns-in-Price-clause-past c = λ n le. c.mark_courses_of_price.ensures n ∙ no_more _ _ (price_past c.args.instance.now c.in-Price.edit n c.limits_hold.ensures (subst (LookFits c.args.instance.now) c.in-Price.is c.requires) le)
