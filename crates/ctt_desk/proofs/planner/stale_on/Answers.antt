use Rattle.std.proofs.Common.{rules, ◌≡◌, ◌∙◌, sym}
use Rattle.ctt_desk.proofs.planner.stale_on.Goals as goal

pub stale-requires : goal.stale-requires
stale-requires g c κs =
    let same : g.S.Rooms.problem c.shown.inside.sheet ≡ c.args.draft.now.problem = c.shown.invariant.same ∙ sym c.requires in
    search rules
