use Rattle.std.proofs.Common.{inl, inr}
use Rattle.ctt_files.proofs.Plain.{passed_on}
use Rattle.ctt_web.specs.Asked.{IsUnnamed}
use Rattle.ctt_web.proofs.names.sides_of.Goals as goal

pub returns-in_err-name_if-clause-cause : goal.returns-in_err-name_if-clause-cause
returns-in_err-name_if-clause-cause c =
    passed_on c.from_residual.result c.in_err-name_if.field-0.0 (IsUnnamed c.args.bytes.now c.args.asked.now) c.from_residual.ensures.1 (inr (inl (inl c.in_err-name_if.ensures.cause)))

pub returns-in_err-name_if-2-clause-cause : goal.returns-in_err-name_if-2-clause-cause
returns-in_err-name_if-2-clause-cause c =
    passed_on c.from_residual-in_err-name_if-2.result c.in_err-name_if-2.field-0.0 (IsUnnamed c.args.bytes.now c.args.asked.now) c.from_residual-in_err-name_if-2.ensures.1 (inr (inl (inr c.in_err-name_if-2.ensures.cause)))
