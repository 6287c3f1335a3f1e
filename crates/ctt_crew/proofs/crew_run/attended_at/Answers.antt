use Rattle.std.proofs.Common.{◌≡◌, ◌∙◌, map, string_bytes, subst, zip, ap₂}
use Rattle.std.proofs.lemmas.Result.{IfOk-weaker}
use Rattle.ctt_seat.specs.Attended.{AreAttended}
use Rattle.ctt_crew.proofs.CrewLemmas.{zipped}
use Rattle.ctt_crew.proofs.crew_run.attended_at.Goals as goal

pub returns-clause-attended : goal.returns-clause-attended
returns-clause-attended g c =
    let same : map (λ w. (w.0, w.1.script.now)) c.in_ok-works.works.items ≡ zip c.args.planners.items (map (λ s. s.now) c.args.scripts.now) =
    zipped (λ w. w.0) (λ w. w.1.script.now) c.in_ok-works.works.items ∙ ap₂ zip c.in_ok-works.ensures.planners c.in_ok-works.ensures.scripts
    in
    IfOk-weaker c.work_at_once.result _ _ (λ done are. subst (λ ws. AreAttended g.J.Naming.problem g.J.Naming.opening ws done.0.items (map string_bytes done.1.items)) same are) c.work_at_once.ensures.attended
