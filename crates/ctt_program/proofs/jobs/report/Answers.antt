use Rattle.std.proofs.Common.{◌≡◌, ◌∙◌, inl, inr, refl, rules, sym}
use Rattle.ctt_files.specs.declared.fault.Fault.TheVariants.{Machine}
use Rattle.ctt_files.specs.declared.fault.MachineFault.TheVariants.{NoMemory}
use Rattle.ctt_files.specs.Faults.{line_of}
use Rattle.ctt_program.proofs.Ends.{no_memory_said, reports_said}
use Rattle.ctt_program.proofs.jobs.report.Goals as goal

pub returns-in-Ok-clause-reports : goal.returns-in-Ok-clause-reports
returns-in-Ok-clause-reports g c =
    reports_said c.args.point c.args.fault.now c.args.fault.now c.status.result g.V.Sink.taken g.V.Sink.has_failed c.args.err.now c.write_stderr.new.err c.as_bytes.result.now (inl refl) c.status.ensures (search rules) c.write_stderr.ensures.said

pub returns-in-Err-clause-reports : goal.returns-in-Err-clause-reports
returns-in-Err-clause-reports g c =
    let line : c.as_bytes-in-Err.result.now ≡ line_of (Machine NoMemory) = search rules in
    reports_said c.args.point c.args.fault.now (Machine NoMemory) 3 g.V.Sink.taken g.V.Sink.has_failed c.args.err.now c.write_stderr-in-Err.new.err c.as_bytes-in-Err.result.now (inr refl) refl
    (line ∙ sym (no_memory_said c.args.point)) c.write_stderr-in-Err.ensures.said
