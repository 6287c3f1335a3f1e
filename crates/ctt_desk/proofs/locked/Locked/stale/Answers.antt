use Rattle.std.proofs.Common.{rules, ◌≡◌, ◌∙◌, sym}
use Rattle.ctt_desk.proofs.locked.Locked.stale.Goals as goal

pub stale-requires : goal.stale-requires
stale-requires g c κs =
    let same : g.S.Rooms.problem c.self.inside.sheet ≡ c.args.draft.now.problem = c.self.invariant.0.same ∙ sym c.requires in
    search rules
