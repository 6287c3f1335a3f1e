use Rattle.std.proofs.Common.{rules, length, subst}
use Rattle.std.specs.List.{AllByRecursion as Each}
use Rattle.ctt_core.specs.Runs.{EventFits}
use Rattle.ctt_trials.proofs.desks.tell_answers.Goals as goal

pub run_all-requires : goal.run_all-requires
run_all-requires g c κs =
    let asked : Each (EventFits c.instance.result.now c.planners.result) c.args.events.now = search rules in
    let here : Each (EventFits c.args.desk.now.problem c.planners.result) c.args.events.now = subst (λ i. Each (EventFits i c.planners.result) c.args.events.now) c.instance.ensures asked in
    let fit : Each (EventFits c.args.desk.now.problem (length c.args.desk.now.drafts)) c.args.events.now = subst (λ n. Each (EventFits c.args.desk.now.problem n) c.args.events.now) c.planners.ensures here in
    search rules
