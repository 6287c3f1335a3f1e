use Rattle.std.proofs.Common.{All, List, subst}
use Rattle.std.proofs.lemmas.List.{take_all}
use Rattle.std.proofs.lemmas.List.Elements.{All-more}
use Rattle.ctt_core.specs.Runs.{Legal}
use Rattle.ctt_desk.specs.Planners.{PlannerValue}
use Rattle.ctt_desk.proofs.shared_desk.fronts_are_legal.Goals as goal

pub loop-planner-preserved : goal.loop-planner-preserved
loop-planner-preserved g c =
    All-more (λ (p : PlannerValue). Legal g.J.Naming.problem g.J.Naming.opening p.front) c.args.planners.now c.loop-planner.planner-index c.planner-item.result c.loop-planner-test.true c.loop-planner.invariant
    (subst (λ (p : PlannerValue). Legal g.J.Naming.problem g.J.Naming.opening p.front) c.planner-item.is c.seen.ensures.legal)

pub returns : goal.returns
returns g c = subst (λ (l : List PlannerValue). All (λ (p : PlannerValue). Legal g.J.Naming.problem g.J.Naming.opening p.front) l) (take_all c.loop-planner.planner-index c.args.planners.now c.loop-planner-test.false) c.loop-planner.invariant
