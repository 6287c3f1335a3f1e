use Rattle.std.proofs.Common.{rules, ◌≡◌, ◌∙◌, length, sym, ap}
use Rattle.ctt_core.specs.Desks.{DeskValue, draft_at, IsCounted, IsFresh}
use Rattle.ctt_core.proofs.StepLemmas.{draft_fits, draft_counted, fresh_of}
use Rattle.ctt_core.proofs.desk.Desk.commit.Goals as goal

pub stale-found-requires : goal.stale-found-requires
stale-found-requires g c κs =
    let same : g.S.Rooms.problem c.self.inside.sheet ≡ c.in-Some.drafting.draft.problem =
    c.self.invariant.same ∙ ap (λ (v : DeskValue). v.problem) c.self.view_is
    ∙ sym (draft_fits _ _ c.args.self.now c.args.planner _ _ _ (ap (λ (v : DeskValue). v.problem) c.self.view_is) (ap (λ (v : DeskValue). v.drafts) c.self.view_is) c.self.invariant.drafts_of c.requires c.get-place.ensures c.index.ensures c.in-Some.is) in
    let counted : IsCounted (g.S.Rooms.list c.self.inside.sheet) (length c.self.inside.journal.items) c.in-Some.drafting =
    draft_counted _ c.self.inside.journal.items _ c.args.self.now c.args.planner _ _ _ (ap (λ (v : DeskValue). v.drafts) c.self.view_is) c.self.invariant.counted c.requires c.get-place.ensures c.index.ensures c.in-Some.is in
    search rules

pub accept-requires : goal.accept-requires
accept-requires g c κs =
    let within = c.requires in
    let fresh : IsFresh c.args.self.now (draft_at c.args.self.now.drafts c.args.planner) = fresh_of _ c.args.self.now c.args.planner _ _ _ _ (ap (λ (v : DeskValue). v.drafts) c.self.view_is) c.requires c.get-place.ensures c.index.ensures c.in-Some.is (ap (λ (v : DeskValue). v.list) c.self.view_is) (c.stale-found.ensures.fresh (search rules)) in
    search rules
