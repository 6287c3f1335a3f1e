use Rattle.std.proofs.Common.{◌||◌, ◌∷◌, [], ◌∙◌, ap}
use Rattle.ctt_problem.specs.Lists.{has}
use Rattle.ctt_problem.specs.Marks.{is_marked}
use Rattle.ctt_problem.specs.Problem.{mates}
use Rattle.ctt_edits.proofs.PastLemmas.{one_past, no_more, mates_of_one}
use Rattle.ctt_edits.proofs.reading.mark_with_mates.Goals as goal

pub returns-clause-marked : goal.returns-clause-marked
returns-clause-marked c = λ n. c.mark_mates.ensures n ∙ ap (λ b. b || mates c.args.instance.now c.args.course n) (c.mark_course.ensures n) ∙ mates_of_one (is_marked c.args.marks.now n) (has n (c.args.course ∷ [])) (mates c.args.instance.now c.args.course n)

pub returns-clause-past : goal.returns-clause-past
returns-clause-past c = λ n le. returns-clause-marked c n ∙ no_more _ _ (one_past c.args.instance.now c.args.course n c.limits_hold.ensures c.requires le)
