use Rattle.std.proofs.Common.{inl, inr, subst}
use Rattle.ctt_problem.specs.Problem.{Problem}
use Rattle.ctt_files.specs.Refusals.{IsOfInstanceIn, IsOfSides}
use Rattle.ctt_files.specs.Texts.{HasSides}
use Rattle.ctt_files.proofs.Plain.{passed_on}
use Rattle.ctt_files.proofs.texts.fetch_instance.Goals as goal

pub returns-in-Ok-clause-spelled : goal.returns-in-Ok-clause-spelled
returns-in-Ok-clause-spelled g c =
    let read : Problem = c.in_ok-instance.instance in
    record {
      read = read;
      is_instance = c.in_ok-instance.ensures.spelled;
      has_sides = subst (λ held. HasSides held c.args.sides read c.read_sides.new.instance) c.in_ok-instance.ensures.kept c.in-Ok.ensures.sides;
    }

pub returns-in-Err-clause-cause : goal.returns-in-Err-clause-cause
returns-in-Err-clause-cause g c =
    let read : Problem = c.in_ok-instance.instance in
    inr (read, c.in_ok-instance.ensures.spelled, subst (λ h. IsOfSides h read c.args.sides c.in-Err.fault) c.in_ok-instance.ensures.kept c.in-Err.ensures.cause)

pub returns-in_err-instance-clause-cause : goal.returns-in_err-instance-clause-cause
returns-in_err-instance-clause-cause g c =
    passed_on c.from_residual.result c.in_err-instance.field-0.0 (IsOfInstanceIn (g.F.Files.held c.args.files.now) c.args.name c.args.sides) c.from_residual.ensures.1 (inl c.in_err-instance.ensures.cause)
