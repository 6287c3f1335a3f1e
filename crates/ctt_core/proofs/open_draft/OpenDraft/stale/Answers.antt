use Rattle.std.proofs.Common.{rules, ◌≡◌, ◌∙◌, sym, ap}
use Rattle.ctt_core.specs.Answers.{OpenValue}
use Rattle.ctt_core.proofs.open_draft.OpenDraft.stale.Goals as goal

pub stale-requires : goal.stale-requires
stale-requires g c κs =
    let same : g.S.Rooms.problem c.args.sheet.now ≡ c.self.inside.draft.value.problem = c.requires.same ∙ sym (ap (λ (v : OpenValue). v.draft.problem) c.self.view_is) in
    search rules
