use Rattle.std.proofs.Common.{All, take}
use mathlib.Core.List.{IsPrefix}
use Rattle.ctt_desk.proofs.shared_desk.begins_with_all.Given as goal

abbrev pub invariant-loop-planner : goal.invariant-loop-planner
invariant-loop-planner g l = All (λ p. IsPrefix p.front l.history) (take l.planner-index l.planners)
