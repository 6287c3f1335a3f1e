use Rattle.std.proofs.Common.{◌≡◌, ◌∙◌, None, sym, ap₂}
use Rattle.ctt_board.specs.Changes.{apply_all}
use Rattle.ctt_draft.specs.Drafts.{calls_of, stale}
use Rattle.ctt_draft.proofs.RefreshLemmas.{ok_of, changes_fit_now, refreshed_draft}
use Rattle.ctt_draft.proofs.draft.Draft.refresh.Goals as goal

pub apply_all-requires : goal.apply_all-requires
apply_all-requires g c =
    let fresh : None ≡ stale c.args.self.now.problem c.args.self.now.base (g.S.Rooms.list c.args.sheet.now) (calls_of c.args.self.now.asked) = sym c.in_default.is ∙ ok_of _ _ c.in_ok-row.ensures.row in
    rw (c.deref.ensures.value, c.in_ok-present.ensures.0, c.in_ok-present.ensures.1)
    (changes_fit_now _ _ _ _ _ _ _ _ c.self.invariant c.self.view_is (g.S.Rooms.list c.args.sheet.now) (g.S.Rooms.problem c.args.sheet.now) c.lawful.ensures c.requires fresh)

pub invariant_of-self : goal.invariant_of-self
invariant_of-self g c =
    let fresh : None ≡ stale c.args.self.now.problem c.args.self.now.base (g.S.Rooms.list c.args.sheet.now) (calls_of c.args.self.now.asked) = sym c.in_default.is ∙ ok_of _ _ c.in_ok-row.ensures.row in
    (refreshed_draft _ _ _ _ _ _ _ _ c.self.invariant c.self.view_is (g.S.Rooms.list c.args.sheet.now) (g.S.Rooms.problem c.args.sheet.now) _ _ c.lawful.ensures c.requires fresh (c.apply_all.ensures.problem ∙ c.in_ok-present.ensures.0) (c.apply_all.ensures.list ∙ ap₂ apply_all c.deref.ensures.value c.in_ok-present.ensures.1)).0

pub returns-clause-ok : goal.returns-clause-ok
returns-clause-ok g c =
    let fresh : None ≡ stale c.args.self.now.problem c.args.self.now.base (g.S.Rooms.list c.args.sheet.now) (calls_of c.args.self.now.asked) = sym c.in_default.is ∙ ok_of _ _ c.in_ok-row.ensures.row in
    (fresh, (refreshed_draft _ _ _ _ _ _ _ _ c.self.invariant c.self.view_is (g.S.Rooms.list c.args.sheet.now) (g.S.Rooms.problem c.args.sheet.now) _ _ c.lawful.ensures c.requires fresh (c.apply_all.ensures.problem ∙ c.in_ok-present.ensures.0) (c.apply_all.ensures.list ∙ ap₂ apply_all c.deref.ensures.value c.in_ok-present.ensures.1)).1)
