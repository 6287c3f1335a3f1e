use Rattle.std.proofs.Common.{rules, ◌∙◌, Some, sym, ap, subst}
use Rattle.ctt_edits.specs.Looks.{LookFits}
use Rattle.ctt_core.specs.Desks.{DeskValue}
use Rattle.ctt_core.proofs.StepLemmas.{draft_fits}
use Rattle.ctt_core.proofs.desk.Desk.peek.Goals as goal

pub peek-told-requires : goal.peek-told-requires
peek-told-requires g c κs =
    let fits : LookFits c.drafting.inside.draft.value.problem c.args.look.now = subst (λ i. LookFits i c.args.look.now) (sym (draft_fits _ _ c.args.self.now c.args.planner _ _ _ (ap (λ (v : DeskValue). v.problem) c.self.view_is) (ap (λ (v : DeskValue). v.drafts) c.self.view_is) c.self.invariant.drafts_of c.requires.planner c.get-place.ensures c.index.ensures (c.in-Some.is ∙ ap Some (sym c.drafting.view_is)))) c.requires.fits in
    search rules
