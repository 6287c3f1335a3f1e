use Rattle.std.proofs.Common.{rules, ◌∙◌, Some, sym, ap, subst}
use Rattle.ctt_edits.specs.Calls.{CallFits}
use Rattle.ctt_core.specs.Desks.{DeskValue}
use Rattle.ctt_core.proofs.StepLemmas.{draft_fits}
use Rattle.ctt_core.proofs.desk.Desk.ask.Goals as goal

pub call-requires : goal.call-requires
call-requires g c κs =
    let fits : CallFits c.drafting.inside.draft.value.problem c.args.call = subst (λ i. CallFits i c.args.call) (sym (draft_fits _ _ c.args.self.now c.args.planner _ _ _ (ap (λ (v : DeskValue). v.problem) c.self.view_is) (ap (λ (v : DeskValue). v.drafts) c.self.view_is) c.self.invariant.drafts_of c.requires.planner c.get-place.ensures c.index_mut.ensures.value (c.in-Some.is ∙ ap Some (sym c.drafting.view_is)))) c.requires.fits in
    search rules
