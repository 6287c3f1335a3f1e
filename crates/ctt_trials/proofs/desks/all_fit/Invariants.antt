use Rattle.std.proofs.Common.{ℕ, ◌<◌, get_or}
use Rattle.ctt_core.specs.Runs.{EventFits}
use Rattle.ctt_core.specs.declared.event.Event.{Event}
use Rattle.ctt_trials.proofs.desks.all_fit.Given as goal

-- those before this place fit
abbrev pub invariant-loop-event : goal.invariant-loop-event
invariant-loop-event l = (k : ℕ) → (other : Event) → k < l.event-index → EventFits l.instance l.planners (get_or l.events k other)
