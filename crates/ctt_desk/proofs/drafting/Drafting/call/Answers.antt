use Rattle.std.proofs.Common.{rules, ◌∙◌, sym, ap, subst}
use Rattle.ctt_edits.specs.Calls.{CallFits}
use Rattle.ctt_draft.specs.DraftValues.{DraftValue}
use Rattle.ctt_desk.proofs.drafting.Drafting.call.Goals as goal

pub call-requires : goal.call-requires
call-requires g c κs =
    let fits : CallFits c.deref_mut.result.now.problem c.args.call = subst (λ i. CallFits i c.args.call) (sym (ap (λ (d : DraftValue). d.problem) c.deref_mut.ensures.value ∙ c.self.invariant.0)) c.requires in
    search rules
