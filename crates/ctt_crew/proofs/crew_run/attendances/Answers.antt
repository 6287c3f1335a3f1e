use Rattle.std.proofs.Common.{◌≡◌, arith, length, map}
use Rattle.std.specs.Slice.Iter.{iter_rest}
use Rattle.std.specs.Vec.Iter.{into_iter_items}
use Rattle.std.proofs.lemmas.Grind.{common_steps}
use Rattle.ctt_seat.proofs.PlannerLemmas.{all_taken}
use Rattle.ctt_crew.proofs.crew_run.attendances.Goals as goal

pub returns-clause-planners : goal.returns-clause-planners
returns-clause-planners g c =
    let none : length (into_iter_items c.loop-planner.planner-iterator.a) ≡ 0 = grind (arith, common_steps) in
    all_taken (λ p. p) (map (λ w. w.0) c.loop-planner.works.items) (into_iter_items c.loop-planner.planner-iterator.a) c.args.planners.items none c.loop-planner.invariant.2

pub returns-clause-scripts : goal.returns-clause-scripts
returns-clause-scripts g c =
    let none : length (iter_rest c.loop-planner.planner-iterator.b) ≡ 0 = grind (arith, common_steps) in
    all_taken (λ s. s.now) (map (λ w. w.1.script.now) c.loop-planner.works.items) (iter_rest c.loop-planner.planner-iterator.b) (map (λ s. s.now) c.args.scripts.now) none c.loop-planner.invariant.3
