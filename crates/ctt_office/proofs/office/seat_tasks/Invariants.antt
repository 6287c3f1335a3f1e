use Rattle.std.proofs.Common.{◌≡◌, ◌+◌, ◌++◌, length, map, string_bytes}
use Rattle.std.specs.Slice.Iter.{iter_rest}
use Rattle.std.specs.Vec.Iter.{into_iter_items}
use Rattle.ctt_office.proofs.office.seat_tasks.Given as goal

-- each planner so far has a seat, in order, with the next name and the log, and as many planners
-- as names are left
abbrev pub invariant-loop-planner : goal.invariant-loop-planner
invariant-loop-planner g l = (length l.seats.items + length (iter_rest l.planner-iterator.b) ≡ length l.names) × (length (into_iter_items l.planner-iterator.a) ≡ length (iter_rest l.planner-iterator.b))
    × (map (λ s. s.0) l.seats.items ++ map (λ p. p) (into_iter_items l.planner-iterator.a) ≡ l.fn.planners.items)
    × (map (λ s. s.1.name.now) l.seats.items ++ map string_bytes (iter_rest l.planner-iterator.b) ≡ map string_bytes l.names)
    × (map (λ s. s.1.log) l.seats.items ≡ map (λ _. l.log) l.seats.items)
