use Rattle.std.proofs.Common.{arith}
use Rattle.ctt_core.specs.Runs.{EventFits}
use Rattle.ctt_problem.proofs.TimetableLemmas.{Each-from_index}
use Rattle.ctt_trials.proofs.desks.all_fit.Goals as goal

pub returns : goal.returns
returns g c = Each-from_index (EventFits g.args.instance.now g.args.planners) g.args.events.now (λ k other lt. g.loop-event.invariant k other (omega (arith, lt, g.loop-event-test.false)))
