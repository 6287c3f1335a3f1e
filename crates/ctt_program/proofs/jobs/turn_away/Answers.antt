use Rattle.std.proofs.Common.{◌≡◌, arith, false, inl, inr, refl, rules, subst, sym}
use Rattle.std.specs.Io.KnownBytes.{Appends}
use Rattle.std.specs.String.{string_bytes}
use Rattle.ctt_files.specs.Output.{AppendsFront}
use Rattle.ctt_files.specs.declared.fault.Fault.TheVariants.{Machine, Usage}
use Rattle.ctt_files.specs.declared.fault.MachineFault.TheVariants.{NoMemory}
use Rattle.ctt_files.specs.declared.fault.UsageFault.TheVariants.{Words}
use Rattle.ctt_program.specs.Served.{IsTurned, Reports}
use Rattle.ctt_program.specs.Streams.{stream}
use Rattle.ctt_program.proofs.Ends.{reported_few, unwritten_three}
use Rattle.ctt_program.proofs.jobs.turn_away.Goals as goal

pub returns-in-Ok-clause-turned : goal.returns-in-Ok-clause-turned
returns-in-Ok-clause-turned g c =
    let text : c.as_bytes.result.now ≡ string_bytes c.in-Help.text = search rules in
    subst (λ f. IsTurned f 0 (stream g.W.Sink.taken g.W.Sink.has_failed c.args.out.now c.print.new.out) (stream g.V.Sink.taken g.V.Sink.has_failed c.args.err.now c.args.err.now)) (sym c.in-Help.is)
    (inl (refl, subst (Appends (g.W.Sink.taken c.args.out.now) (g.W.Sink.taken c.print.new.out)) text c.in-Ok.ensures.printed, refl))

pub returns-in-Help-clause-turned : goal.returns-in-Help-clause-turned
returns-in-Help-clause-turned g c =
    let text : c.as_bytes.result.now ≡ string_bytes c.in-Help.text = search rules in
    let err = stream g.V.Sink.taken g.V.Sink.has_failed c.args.err.now c.report.new.err in
    subst (λ f. IsTurned f c.report.result (stream g.W.Sink.taken g.W.Sink.has_failed c.args.out.now c.print.new.out) err) (sym c.in-Help.is)
    (inr (c.in-Err.ensures.marked, subst (AppendsFront (g.W.Sink.taken c.args.out.now) (g.W.Sink.taken c.print.new.out)) text c.in-Err.ensures.front, subst (λ fault. Reports false fault c.report.result err) c.in-Err.ensures.fault c.report.ensures.reports))

pub returns-in-Refused-clause-turned : goal.returns-in-Refused-clause-turned
returns-in-Refused-clause-turned g c =
    subst (λ f. IsTurned f c.report-in-Refused.result (stream g.W.Sink.taken g.W.Sink.has_failed c.args.out.now c.args.out.now) (stream g.V.Sink.taken g.V.Sink.has_failed c.args.err.now c.report-in-Refused.new.err)) (sym c.in-Refused.is)
    (refl, c.report-in-Refused.ensures.reports)

pub returns-clause-turned : goal.returns-clause-turned
returns-clause-turned g c =
    subst (λ f. IsTurned f c.report-in-NoMemory.result (stream g.W.Sink.taken g.W.Sink.has_failed c.args.out.now c.args.out.now) (stream g.V.Sink.taken g.V.Sink.has_failed c.args.err.now c.report-in-NoMemory.new.err)) (sym c.in-NoMemory.is)
    (refl, c.report-in-NoMemory.ensures.reports)

pub returns-in-Help-clause-known : goal.returns-in-Help-clause-known
returns-in-Help-clause-known g c = reported_few c.in-Err.fault c.report.result c.report.ensures.status

pub returns-in-Help-clause-unmarked : goal.returns-in-Help-clause-unmarked
returns-in-Help-clause-unmarked g c = inl (unwritten_three c.in-Err.fault c.report.result c.in-Err.ensures.fault c.report.ensures.status)

pub returns-in-Refused-clause-known : goal.returns-in-Refused-clause-known
returns-in-Refused-clause-known g c = reported_few (Usage (Words c.in-Refused.text)) c.report-in-Refused.result c.report-in-Refused.ensures.status

pub returns-clause-known : goal.returns-clause-known
returns-clause-known g c = reported_few (Machine NoMemory) c.report-in-NoMemory.result c.report-in-NoMemory.ensures.status

pub returns-in-Ok-clause-flushed : goal.returns-in-Ok-clause-flushed
returns-in-Ok-clause-flushed g c = λ zero. inl c.in-Ok.ensures.flushed

pub returns-in-Help-clause-flushed : goal.returns-in-Help-clause-flushed
returns-in-Help-clause-flushed g c = λ zero. absurd (omega (arith, unwritten_three c.in-Err.fault c.report.result c.in-Err.ensures.fault c.report.ensures.status, zero))

pub returns-in-Refused-clause-flushed : goal.returns-in-Refused-clause-flushed
returns-in-Refused-clause-flushed g c = λ zero. inr refl

pub returns-clause-flushed : goal.returns-clause-flushed
returns-clause-flushed g c = λ zero. inr refl
