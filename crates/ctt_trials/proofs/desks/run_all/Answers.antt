use Rattle.std.proofs.Common.{rules, length, subst, sym}
use Rattle.std.specs.List.{AllByRecursion as Each}
use Rattle.ctt_core.specs.Runs.{EventFits}
use Rattle.ctt_trials.proofs.desks.run_all.Goals as goal

pub run-requires-in-Err : goal.run-requires-in-Err
run-requires-in-Err g c κs =
    let fit : Each (EventFits c.run.new.self.problem (length c.run.new.self.drafts)) c.args.events.now = subst (λ d. Each (EventFits d.problem (length d.drafts)) c.args.events.now) (sym c.in-Err.ensures.err) c.requires in
    search rules
