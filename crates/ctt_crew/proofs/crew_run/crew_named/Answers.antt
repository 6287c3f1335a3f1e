use Rattle.std.proofs.Common.{◌≡◌, ◌∙◌, List, ap, length, map, string_bytes, subst, sym, zip, ℕ}
use Rattle.std.proofs.lemmas.List.{length-map}
use Rattle.std.proofs.lemmas.Result.{IfErr-weaker, IfOk-weaker}
use Rattle.ctt_problem.specs.Problem.{Problem}
use Rattle.ctt_problem.specs.declared.placed.Placed.{Placed}
use Rattle.ctt_desk.specs.Planners.{new_planners}
use Rattle.ctt_seat.specs.Attended.{AreAttended}
use Rattle.ctt_seat.proofs.PlannerLemmas.{planners_many}
use Rattle.ctt_crew.proofs.CrewLemmas.{is_crew_text, report_fits}
use Rattle.ctt_crew.proofs.crew_run.crew_named.Goals as goal

pub attended_at-done-requires-clause-counted : goal.attended_at-done-requires-clause-counted
attended_at-done-requires-clause-counted g c κs within = ap length c.in_ok-desk.ensures.planners ∙ planners_many c.args.count ∙ sym c.requires.counted

pub returns-clause-fault : goal.returns-clause-fault
returns-clause-fault g c = IfErr-weaker c.last_report.result _ _ (λ fault told. report_fits c.attended_at-done.result g.J.Naming.planners fault c.attended_at-done.ensures.fault told) c.last_report.ensures.fault

pub returns-clause-text : goal.returns-clause-text
returns-clause-text g c =
    let i : Problem = g.J.Naming.problem in
    let t0 : List Placed = g.J.Naming.opening in
    let scripts : List (List ℕ) = map (λ s. s.now) c.args.scripts.now in
    let many : c.args.count ≡ length scripts = sym (length-map c.args.scripts.now (λ s. s.now) ∙ c.requires.counted) in
    let planners : c.in_ok-desk.planners.items ≡ new_planners (length scripts) = c.in_ok-desk.ensures.planners ∙ ap new_planners many in
    IfOk-weaker c.last_report.result _ _ (λ text closes.
    is_crew_text c.attended_at-done.result (λ done. done.0.items) (λ done. map string_bytes done.1.items) i t0 scripts text.items
    (IfOk-weaker c.attended_at-done.result _ _ (λ done are. subst (λ ps. AreAttended i t0 (zip ps scripts) done.0.items (map string_bytes done.1.items)) planners are) c.attended_at-done.ensures.attended)
    closes) c.last_report.ensures.closes
