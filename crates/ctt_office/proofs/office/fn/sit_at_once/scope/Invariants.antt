use Rattle.std.proofs.Common.{◌≡◌, ◌+◌, length}
use Rattle.std.specs.Vec.Iter.{into_iter_items}
use Rattle.ctt_office.proofs.office.fn.sit_at_once.scope.Given as goal

-- each planner has a thread, or is still to get one
abbrev pub invariant-loop-planner : goal.invariant-loop-planner
invariant-loop-planner g l = length l.threads.items + length (into_iter_items l.planner-iterator) ≡ length (into_iter_items l.initial.planner-iterator)
