use Rattle.std.proofs.Common.{refl, subst, sym}
use Rattle.ctt_files.specs.declared.fault.Fault.TheVariants.{Machine}
use Rattle.ctt_files.specs.declared.fault.MachineFault.TheVariants.{NoMemory}
use Rattle.ctt_files.proofs.Plain.{passed_on}
use Rattle.ctt_commands.specs.Verdicts.{IsVerdictFault}
use Rattle.ctt_commands.proofs.auditing.show_verdict.Goals as goal

pub returns-in_err-from_str-in-Agrees-clause-cause : goal.returns-in_err-from_str-in-Agrees-clause-cause
returns-in_err-from_str-in-Agrees-clause-cause c =
    passed_on c.from_residual.result (Machine NoMemory) (IsVerdictFault c.args.instance.now c.args.verdict) c.from_residual.ensures.1
    (subst (λ verdict. IsVerdictFault c.args.instance.now verdict (Machine NoMemory)) (sym c.in-Agrees.is) refl)
