use Rattle.std.proofs.Common.{◌≡◌, ◌++◌, ◌∷◌, [], ◌∙◌, List, arith, ap, length, map, rules, string_bytes, subst, sym, ℕ}
use Rattle.std.specs.Vec.Iter.{into_iter_items}
use Rattle.std.proofs.lemmas.Grind.{common_steps}
use Rattle.std.proofs.lemmas.List.{map-append, nil_from_length}
use Rattle.ctt_problem.specs.Problem.{Problem}
use Rattle.ctt_problem.specs.declared.placed.Placed.{Placed}
use Rattle.ctt_desk.specs.Planners.{PlannerValue}
use Rattle.ctt_crew.specs.Attending.{AreAttending}
use Rattle.ctt_crew.proofs.AttendLemmas.{all_attended, one_attended}
use Rattle.ctt_crew.proofs.crew_run.join_all.Goals as goal

pub loop-thread-init : goal.loop-thread-init
loop-thread-init g c =
    let i : Problem = g.J.Naming.problem in
    let t0 : List Placed = g.J.Naming.opening in
    let all : List (PlannerValue × List ℕ) = map (λ h. h.promise) c.args.threads.items in
    let first : into_iter_items c.into_iter-thread-iterator.result ≡ c.args.threads.items = search rules in
    let nobody : c.in_ok-planners.planners.items ≡ [] = c.in_ok-planners.ensures.items in
    let none : map string_bytes c.in_ok-answers.answers.items ≡ [] = ap (map string_bytes) c.in_ok-answers.ensures.items in
    subst (λ ts. AreAttending i t0 all (map (λ h. h.promise) ts) c.in_ok-planners.planners.items (map string_bytes c.in_ok-answers.answers.items)) (sym first)
    (subst (λ ps. AreAttending i t0 all all ps (map string_bytes c.in_ok-answers.answers.items)) (sym nobody) (subst (AreAttending i t0 all all []) (sym none) (λ others more are. are)))

pub loop-thread-preserved : goal.loop-thread-preserved
loop-thread-preserved g c =
    let i : Problem = g.J.Naming.problem in
    let t0 : List Placed = g.J.Naming.opening in
    let all : List (PlannerValue × List ℕ) = map (λ h. h.promise) c.args.threads.items in
    let planners : List PlannerValue = c.loop-thread.planners.items in
    let texts : List (List ℕ) = map string_bytes c.loop-thread.answers.items in
    let q : PlannerValue = c.in_ok-planner.planner in
    let text : List ℕ = string_bytes c.in_ok-planner.text in
    let left : List (PlannerValue × List ℕ) = map (λ h. h.promise) (into_iter_items c.next.new.self) in
    let step : into_iter_items c.loop-thread.thread-iterator ≡ c.in-Some.thread ∷ into_iter_items c.next.new.self = search rules in
    let so_far = subst (λ ts. AreAttending i t0 all (map (λ h. h.promise) ts) planners texts) step c.loop-thread.invariant in
    let more : c.push.new.self.items ≡ planners ++ q ∷ [] = search rules in
    let grown : map string_bytes c.push-in-loop-thread.new.self.items ≡ texts ++ text ∷ [] = ap (map string_bytes) c.in_ok-push-2.ensures.items ∙ map-append string_bytes c.loop-thread.answers.items (c.in_ok-planner.text ∷ []) in
    subst (λ ps. AreAttending i t0 all left ps (map string_bytes c.push-in-loop-thread.new.self.items)) (sym more)
    (subst (AreAttending i t0 all left (planners ++ q ∷ [])) (sym grown) (one_attended i t0 all c.in-Some.thread.promise left planners texts q text so_far c.in_ok-planner.ensures))

pub returns-clause-attended : goal.returns-clause-attended
returns-clause-attended g c =
    let i : Problem = g.J.Naming.problem in
    let t0 : List Placed = g.J.Naming.opening in
    let all : List (PlannerValue × List ℕ) = map (λ h. h.promise) c.args.threads.items in
    let planners : List PlannerValue = c.loop-thread.planners.items in
    let texts : List (List ℕ) = map string_bytes c.loop-thread.answers.items in
    let zero : length (into_iter_items c.loop-thread.thread-iterator) ≡ 0 = grind (arith, common_steps) in
    let none : into_iter_items c.loop-thread.thread-iterator ≡ [] = nil_from_length (into_iter_items c.loop-thread.thread-iterator) zero in
    all_attended i t0 all planners texts (subst (λ ts. AreAttending i t0 all (map (λ h. h.promise) ts) planners texts) none c.loop-thread.invariant)
