use Rattle.std.proofs.Common.{inl}
use Rattle.std.proofs.lemmas.Result.{IfErr-weaker}
use Rattle.ctt_files.proofs.Plain.{behind_instance, passed_on}
use Rattle.ctt_files.specs.Refusals.{IsOfInstanceOr, IsOfSolution}
use Rattle.ctt_web.proofs.answers.answer_in.Goals as goal

pub returns-in_err-instance-clause-cause : goal.returns-in_err-instance-clause-cause
returns-in_err-instance-clause-cause g c =
    passed_on c.from_residual.result c.in_err-instance.field-0.0 (IsOfInstanceOr (IsOfSolution c.args.names.solution) (g.F.Files.held c.args.files.now) c.args.names.instance c.args.names.sides) c.from_residual.ensures.1 (inl c.in_err-instance.ensures.cause)

pub returns-clause-cause : goal.returns-clause-cause
returns-clause-cause g c =
    IfErr-weaker c.answer_on-done.result _ _ (λ fault is. behind_instance (IsOfSolution c.args.names.solution) _ _ c.args.names.instance c.args.names.sides c.in_ok-instance.instance fault c.in_ok-instance.ensures.spelled c.in_ok-instance.ensures.kept is) c.answer_on-done.ensures.cause
