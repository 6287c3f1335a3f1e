use Rattle.std.proofs.Common.{All, take}
use Rattle.ctt_core.specs.Runs.{Legal}
use Rattle.ctt_desk.proofs.shared_desk.fronts_are_legal.Given as goal

abbrev pub invariant-loop-planner : goal.invariant-loop-planner
invariant-loop-planner g l = All (λ p. Legal g.J.Naming.problem g.J.Naming.opening p.front) (take l.planner-index l.planners)
