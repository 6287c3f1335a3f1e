use Rattle.std.proofs.Common.{rules, ◌≡◌, ◌∙◌, sym}
use Rattle.ctt_trials.proofs.drafts.one_draft.Goals as goal

pub ask_all-requires : goal.ask_all-requires
ask_all-requires g c κs =
    let own : g.S.Rooms.problem c.args.sheet.now ≡ c.in-Ok.draft.problem = sym c.in-Ok.ensures in
    let other : g.S.Rooms.problem c.args.other.now ≡ c.in-Ok.draft.problem = c.requires ∙ own in
    search rules

pub settle-requires : goal.settle-requires
settle-requires g c κs =
    let same : g.S.Rooms.problem c.args.sheet.now ≡ c.ask_all.new.draft.problem = sym (c.ask_all.ensures ∙ c.in-Ok.ensures) in
    search rules
