use Rattle.std.proofs.Common.{Result, IfErr, subst, sym}
use Rattle.ctt_files.specs.declared.fault.Fault.{Fault}
use Rattle.ctt_files.specs.declared.outcome.Outcome.{Outcome}
use Rattle.ctt_program.specs.Served.{Reports}
use Rattle.ctt_program.specs.Streams.{stream}
use Rattle.ctt_program.proofs.jobs.end.Goals as goal

pub returns-in-Err-clause-reports : goal.returns-in-Err-clause-reports
returns-in-Err-clause-reports g c =
    subst (λ (r : Result Outcome Fault). IfErr r (λ fault. Reports c.args.point fault c.report.result (stream g.V.Sink.taken g.V.Sink.has_failed c.args.err.now c.report.new.err))) (sym c.in-Err.is) c.report.ensures.reports
