use Rattle.std.proofs.Common.{◌≡◌, ◌+◌, ◌++◌, length, map}
use Rattle.std.specs.Slice.Iter.{iter_rest}
use Rattle.std.specs.Vec.Iter.{into_iter_items}
use Rattle.ctt_crew.proofs.crew_run.attendances.Given as goal

-- planners are paired with scripts in order, and as many of both are left
abbrev pub invariant-loop-planner : goal.invariant-loop-planner
invariant-loop-planner g l = (length l.works.items + length (iter_rest l.planner-iterator.b) ≡ length l.scripts) × (length (into_iter_items l.planner-iterator.a) ≡ length (iter_rest l.planner-iterator.b))
    × (map (λ w. w.0) l.works.items ++ map (λ p. p) (into_iter_items l.planner-iterator.a) ≡ l.fn.planners.items)
    × (map (λ w. w.1.script.now) l.works.items ++ map (λ s. s.now) (iter_rest l.planner-iterator.b) ≡ map (λ s. s.now) l.scripts)
