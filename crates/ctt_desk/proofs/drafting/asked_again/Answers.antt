use Rattle.std.proofs.Common.{◌∙◌, subst, sym}
use Rattle.std.specs.List.{AllByRecursion as Each}
use Rattle.std.proofs.lemmas.Result.{IfOk-weaker}
use Rattle.ctt_problem.specs.Problem.{IsProblem}
use Rattle.ctt_draft.specs.Drafts.{AskedFits}
use Rattle.ctt_core.proofs.JournalLemmas.{told_fit}
use Rattle.ctt_desk.proofs.drafting.asked_again.Goals as goal

pub returns-clause-fit : goal.returns-clause-fit
returns-clause-fit g c =
    let d = c.args.draft.now in
    let is : IsProblem d.problem = subst IsProblem c.instance.ensures c.limits_hold.ensures in
    IfOk-weaker c.copy_of.result _ _ (λ asked same. subst (Each (AskedFits d.problem)) (sym (same ∙ c.asked.ensures)) (told_fit d.problem is d.base d.asked c.lawful.ensures.base c.lawful.ensures.told)) c.copy_of.ensures
