use Rattle.std.proofs.Common.{All, IsTrue, List, rules, subst, refl}
use Rattle.std.proofs.lemmas.List.{take_all}
use Rattle.std.proofs.lemmas.List.Elements.{All-more}
use mathlib.Core.List.{IsPrefix}
use Rattle.ctt_desk.specs.Planners.{PlannerValue}
use Rattle.ctt_desk.proofs.PrefixLemmas.{prefix_length}
use Rattle.ctt_desk.proofs.shared_desk.begins_with_all.Goals as goal

pub loop-planner-preserved : goal.loop-planner-preserved
loop-planner-preserved g c =
    let yes : IsTrue c.begins.result = search rules in
    All-more (λ (p : PlannerValue). IsPrefix p.front c.args.history.now) c.args.planners.now c.loop-planner.planner-index c.planner-item.result c.loop-planner-test.true c.loop-planner.invariant
    (subst (λ (p : PlannerValue). IsPrefix p.front c.args.history.now) c.planner-item.is (c.begins.ensures.begins yes))

pub returns-clause-begins : goal.returns-clause-begins
returns-clause-begins g c = λ _. subst (λ (l : List PlannerValue). All (λ (p : PlannerValue). IsPrefix p.front c.args.history.now) l) (take_all c.loop-planner.planner-index c.args.planners.now c.loop-planner-test.false) c.loop-planner.invariant

pub returns-clause-shorter : goal.returns-clause-shorter
returns-clause-shorter g c =
    let whole : All (λ (p : PlannerValue). IsPrefix p.front c.args.history.now) c.args.planners.now = subst (λ (l : List PlannerValue). All (λ (p : PlannerValue). IsPrefix p.front c.args.history.now) l) (take_all c.loop-planner.planner-index c.args.planners.now c.loop-planner-test.false) c.loop-planner.invariant in
    ((λ _ k d lt. prefix_length _ _ (whole k d lt)), λ _. refl)
