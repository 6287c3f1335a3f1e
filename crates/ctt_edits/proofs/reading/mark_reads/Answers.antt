use Rattle.std.proofs.Common.{◌∙◌, subst}
use Rattle.ctt_edits.specs.Calls.{CallFits}
use Rattle.ctt_edits.proofs.PastLemmas.{courses_past, slots_past, no_more}
use Rattle.ctt_edits.proofs.reading.mark_reads.Goals as goal

pub returns-in-Edit-clause-courses_past : goal.returns-in-Edit-clause-courses_past
returns-in-Edit-clause-courses_past c = λ n le. c.mark_courses_of_edit.ensures n ∙ no_more _ _ (courses_past c.args.instance.now _ n (subst (CallFits c.args.instance.now) c.in-Edit.is c.requires) le)

pub returns-in-Edit-clause-slots_past : goal.returns-in-Edit-clause-slots_past
returns-in-Edit-clause-slots_past c = λ n le. c.mark_slots_of_edit.ensures n ∙ no_more _ _ (slots_past c.args.instance.now _ n (subst (CallFits c.args.instance.now) c.in-Edit.is c.requires) le)
