use Rattle.std.proofs.Common.{rules, ◌≡◌, ◌∙◌, sym}
use Rattle.ctt_trials.proofs.drafts.ask_all.Goals as goal

pub tell_stale-requires : goal.tell_stale-requires
tell_stale-requires g c κs =
    let same : g.S.Rooms.problem c.args.sheet.now ≡ c.tell_asked-2.new.draft.problem = c.requires.own ∙ sym (c.tell_asked-2.ensures ∙ c.tell_asked.ensures) in
    search rules

pub tell_stale-requires-2 : goal.tell_stale-requires-2
tell_stale-requires-2 g c κs =
    let same : g.S.Rooms.problem c.args.other.now ≡ c.tell_asked-2.new.draft.problem = c.requires.other ∙ sym (c.tell_asked-2.ensures ∙ c.tell_asked.ensures) in
    search rules
