use Rattle.std.proofs.Common.{◌≡◌, arith, length, map, string_bytes}
use Rattle.std.specs.Slice.Iter.{iter_rest}
use Rattle.std.specs.Vec.Iter.{into_iter_items}
use Rattle.std.proofs.lemmas.Grind.{common_steps}
use Rattle.ctt_seat.proofs.PlannerLemmas.{all_taken}
use Rattle.ctt_office.proofs.office.seat_tasks.Goals as goal

pub returns-clause-planners : goal.returns-clause-planners
returns-clause-planners g c =
    let none : length (into_iter_items c.loop-planner.planner-iterator.a) ≡ 0 = grind (arith, common_steps) in
    all_taken (λ p. p) (map (λ s. s.0) c.loop-planner.seats.items) (into_iter_items c.loop-planner.planner-iterator.a) c.args.planners.items none c.loop-planner.invariant.2

pub returns-clause-names : goal.returns-clause-names
returns-clause-names g c =
    let none : length (iter_rest c.loop-planner.planner-iterator.b) ≡ 0 = grind (arith, common_steps) in
    all_taken string_bytes (map (λ s. s.1.name.now) c.loop-planner.seats.items) (iter_rest c.loop-planner.planner-iterator.b) (map string_bytes c.args.names.now) none c.loop-planner.invariant.3
