use Rattle.std.proofs.Common.{rules, ◌≡◌, ◌∙◌, sym}
use Rattle.ctt_trials.proofs.drafts.play.Goals as goal

pub one_draft-requires : goal.one_draft-requires
one_draft-requires g c κs =
    let same : g.S.Rooms.problem c.in-Ok-opened.other ≡ g.S.Rooms.problem c.in-Ok.sheet = c.in-Ok-opened.ensures ∙ sym c.in-Ok.ensures in
    search rules
