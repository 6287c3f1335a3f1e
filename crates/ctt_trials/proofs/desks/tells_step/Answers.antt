use Rattle.std.proofs.Common.{rules, length, subst}
use Rattle.ctt_core.specs.Runs.{EventFits}
use Rattle.ctt_trials.proofs.desks.tells_step.Goals as goal

pub step-requires : goal.step-requires
step-requires g c κs =
    let asked : EventFits c.instance.result.now c.planners.result c.args.event.now = search rules in
    let here : EventFits c.args.desk.now.problem c.planners.result c.args.event.now = subst (λ i. EventFits i c.planners.result c.args.event.now) c.instance.ensures asked in
    let fits : EventFits c.args.desk.now.problem (length c.args.desk.now.drafts) c.args.event.now = subst (λ n. EventFits c.args.desk.now.problem n c.args.event.now) c.planners.ensures here in
    search rules
