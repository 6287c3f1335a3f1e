use Rattle.std.proofs.Common.{◌≡◌, ◌++◌, map}
use Rattle.std.specs.Vec.Iter.{into_iter_items}
use Rattle.ctt_crew.proofs.crew_run.fn.work_at_once.scope.Given as goal

-- each planner has a thread that promises his answers, or is still to get one
abbrev pub invariant-loop-planner : goal.invariant-loop-planner
invariant-loop-planner g l =
    map (λ h. h.promise) l.threads.items ++ map (λ w. (w.0, w.1.script.now)) (into_iter_items l.planner-iterator) ≡ map (λ w. (w.0, w.1.script.now)) (into_iter_items l.initial.planner-iterator)
