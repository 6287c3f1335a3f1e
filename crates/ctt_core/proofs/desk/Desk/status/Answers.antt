use Rattle.std.proofs.Common.{rules, ◌≡◌, ◌∙◌, length, sym, ap}
use Rattle.ctt_core.specs.Desks.{DeskValue, IsCounted}
use Rattle.ctt_core.proofs.StepLemmas.{draft_fits, draft_counted}
use Rattle.ctt_core.proofs.desk.Desk.status.Goals as goal

pub stale-stale-requires : goal.stale-stale-requires
stale-stale-requires g c κs =
    let same : g.S.Rooms.problem c.self.inside.sheet ≡ c.in-Some.drafting.draft.problem =
    c.self.invariant.same ∙ ap (λ (v : DeskValue). v.problem) c.self.view_is
    ∙ sym (draft_fits _ _ c.args.self.now c.args.planner _ _ _ (ap (λ (v : DeskValue). v.problem) c.self.view_is) (ap (λ (v : DeskValue). v.drafts) c.self.view_is) c.self.invariant.drafts_of c.requires c.get-place.ensures c.index.ensures c.in-Some.is) in
    let counted : IsCounted (g.S.Rooms.list c.self.inside.sheet) (length c.self.inside.journal.items) c.in-Some.drafting =
    draft_counted _ c.self.inside.journal.items _ c.args.self.now c.args.planner _ _ _ (ap (λ (v : DeskValue). v.drafts) c.self.view_is) c.self.invariant.counted c.requires c.get-place.ensures c.index.ensures c.in-Some.is in
    search rules
