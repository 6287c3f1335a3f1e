use Rattle.std.proofs.Common.{rules, ◌≡◌, ◌∙◌, sym}
use Rattle.ctt_desk.proofs.refreshing.refresh_on.Goals as goal

pub refresh-requires : goal.refresh-requires
refresh-requires g c κs =
    let same : g.S.Rooms.problem c.shown.inside.sheet ≡ c.args.draft.now.problem = c.shown.invariant.same ∙ sym c.requires in
    search rules
