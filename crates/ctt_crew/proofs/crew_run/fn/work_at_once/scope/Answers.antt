use Rattle.std.proofs.Common.{◌≡◌, ◌++◌, ◌∷◌, [], ◌∙◌, IfOk, List, ap, append-nil, append_assoc, arith, length, map, rules, string_bytes, subst, sym, ℕ}
use Rattle.std.specs.Vec.Iter.{into_iter_items}
use Rattle.std.proofs.lemmas.Grind.{common_steps}
use Rattle.std.proofs.lemmas.List.{nil_from_length}
use Rattle.std.proofs.lemmas.Result.{IfErr-weaker, IfOk-weaker}
use Rattle.ctt_problem.specs.Problem.{Problem}
use Rattle.ctt_problem.specs.declared.placed.Placed.{Placed}
use Rattle.ctt_crew.specs.CrewFaults.{IsCrewFault}
use Rattle.ctt_seat.specs.Attended.{AreAttended, IsAttended}
use Rattle.ctt_desk.specs.Planners.{PlannerValue}
use Rattle.ctt_crew.proofs.CrewLemmas.{promised_also}
use Rattle.ctt_crew.proofs.crew_run.fn.work_at_once.scope.Goals as goal

pub spawn_with-started-requires-clause-keeps : goal.spawn_with-started-requires-clause-keeps
spawn_with-started-requires-clause-keeps g c κs within r is = subst (λ who. IfOk r (λ done. IsAttended g.J.Naming.problem g.J.Naming.opening who done.0 (string_bytes done.1))) (sym c.of-promise.ensures) is

pub loop-planner-preserved : goal.loop-planner-preserved
loop-planner-preserved g c =
    let who : PlannerValue × List ℕ = (c.in-Some.planner, c.in-Some.attendance.script.now) in
    let step : into_iter_items c.loop-planner.planner-iterator ≡ (c.in-Some.planner, c.in-Some.attendance) ∷ into_iter_items c.next.new.self = search rules in
    let grown : map (λ h. h.promise) c.push_started.new.threads.items ≡ map (λ h. h.promise) c.loop-planner.threads.items ++ who ∷ [] =
    promised_also (λ h. h.promise) c.spawn_with-started.result c.loop-planner.threads.items c.push_started.new.threads.items who c.in_default.ensures.added (subst (λ w. IfOk c.spawn_with-started.result (λ h. h.promise ≡ w)) c.of-promise.ensures c.spawn_with-started.ensures.ok) in
    let rest : List (PlannerValue × List ℕ) = map (λ w. (w.0, w.1.script.now)) (into_iter_items c.next.new.self) in
    ap (λ l. l ++ rest) grown ∙ append_assoc (map (λ h. h.promise) c.loop-planner.threads.items) (who ∷ []) rest
    ∙ ap (λ l. map (λ h. h.promise) c.loop-planner.threads.items ++ map (λ w. (w.0, w.1.script.now)) l) (sym step) ∙ c.loop-planner.invariant

pub returns : goal.returns
returns g c =
    let i : Problem = g.J.Naming.problem in
    let t0 : List Placed = g.J.Naming.opening in
    let zero : length (into_iter_items c.loop-planner.planner-iterator) ≡ 0 = grind (arith, common_steps) in
    let none : into_iter_items c.loop-planner.planner-iterator ≡ [] = nil_from_length (into_iter_items c.loop-planner.planner-iterator) zero in
    let all : into_iter_items c.into_iter-planner-iterator.result ≡ c.captures.works.items = search rules in
    let same : map (λ h. h.promise) c.loop-planner.threads.items ≡ map (λ w. (w.0, w.1.script.now)) c.captures.works.items =
    sym (append-nil (map (λ h. h.promise) c.loop-planner.threads.items)) ∙ ap (λ l. map (λ h. h.promise) c.loop-planner.threads.items ++ map (λ w. (w.0, w.1.script.now)) l) (sym none) ∙ c.loop-planner.invariant
    ∙ ap (map (λ w. (w.0, w.1.script.now))) all
    in
    record {
      attended = IfOk-weaker c.join_all.result _ _ (λ done are. subst (λ ws. AreAttended i t0 ws done.0.items (map string_bytes done.1.items)) same are) c.join_all.ensures.attended;
      fault = IfErr-weaker c.join_all.result _ _ (λ fault is. subst (IsCrewFault g.J.Naming.planners) (sym is) tt) c.join_all.ensures.fault;
    }
