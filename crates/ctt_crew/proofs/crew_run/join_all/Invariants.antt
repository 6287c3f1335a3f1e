use Rattle.std.proofs.Common.{map, string_bytes}
use Rattle.std.specs.Vec.Iter.{into_iter_items}
use Rattle.ctt_crew.specs.Attending.{AreAttending}
use Rattle.ctt_crew.proofs.crew_run.join_all.Given as goal

-- each thread is joined, or is still to be
abbrev pub invariant-loop-thread : goal.invariant-loop-thread
invariant-loop-thread g l = AreAttending g.J.Naming.problem g.J.Naming.opening (map (λ h. h.promise) l.fn.threads.items) (map (λ h. h.promise) (into_iter_items l.thread-iterator)) l.planners.items (map string_bytes l.answers.items)
