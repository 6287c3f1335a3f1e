use Rattle.std.proofs.Common.{◌≡◌}
use Rattle.ctt_desk.specs.Planners.{new_planners}
use Rattle.ctt_desk.proofs.shared_desk.planners.Given as goal

abbrev pub invariant-loop-number : goal.invariant-loop-number
invariant-loop-number g l = l.planners.items ≡ new_planners l.number
