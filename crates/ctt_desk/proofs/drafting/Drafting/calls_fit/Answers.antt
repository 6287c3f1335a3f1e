use Rattle.std.proofs.Common.{◌∙◌, sym, ap, subst}
use Rattle.std.specs.List.{AllByRecursion as Each}
use Rattle.ctt_problem.specs.Problem.{IsProblem}
use Rattle.ctt_draft.specs.Drafts.{AskedFits}
use Rattle.ctt_draft.specs.DraftValues.{DraftValue}
use Rattle.ctt_core.proofs.JournalLemmas.{told_fit}
use Rattle.ctt_desk.specs.Planners.{DraftingValue}
use Rattle.ctt_desk.proofs.drafting.Drafting.calls_fit.Goals as goal

pub returns : goal.returns
returns g c =
    let d : DraftValue = c.deref-2.result.now in
    let is : IsProblem d.problem = subst IsProblem (c.instance.ensures ∙ ap (λ (x : DraftValue). x.problem) (c.deref.ensures ∙ sym c.deref-2.ensures)) c.limits_hold.ensures in
    let told : Each (AskedFits d.problem) d.asked = told_fit d.problem is d.base d.asked c.lawful.ensures.base c.lawful.ensures.told in
    let fit : Each (AskedFits g.J.Naming.problem) d.asked = subst (λ i. Each (AskedFits i) d.asked) (ap (λ (x : DraftValue). x.problem) c.deref-2.ensures ∙ c.self.invariant.0) told in
    let stored : Each (AskedFits g.J.Naming.problem) c.self.inside.draft.value.asked = subst (λ (x : DraftValue). Each (AskedFits g.J.Naming.problem) x.asked) c.deref-2.ensures fit in
    subst (λ (v : DraftingValue). Each (AskedFits g.J.Naming.problem) v.asked) c.self.view_is stored
