use Rattle.std.proofs.Common.{inl, inr, refl}
use Rattle.ctt_program.proofs.words.serve.Goals as goal

pub returns-clause-served : goal.returns-clause-served
returns-clause-served g c = inl (_, c.program.ensures.served)

pub returns-in-Err-clause-served : goal.returns-in-Err-clause-served
returns-in-Err-clause-served g c = inr (record { fault = c.in-Err.fault; is = c.in-Err.ensures; unprinted = refl; reports = c.report.ensures.reports; kept = refl })
