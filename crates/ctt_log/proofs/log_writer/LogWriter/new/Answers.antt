use Rattle.std.proofs.Common.{[], subst, sym}
use Rattle.std.proofs.KnownBytes.{Appends-nil}
use Rattle.ctt_log.specs.Minutes.{AreMinutesOf}
use Rattle.ctt_log.proofs.MinutesLemmas.{front_of}
use Rattle.ctt_log.proofs.log_writer.LogWriter.new.Goals as goal

pub invariant_of-result : goal.invariant_of-result
invariant_of-result g c =
    let i = g.J.Naming.problem in
    let now = g.W.Sink.taken c.args.writer in
    let none : AreMinutesOf i [] g.J.Begun.start now = subst (λ start. AreMinutesOf i [] start now) (sym c.requires) (Appends-nil now) in
    (λ sound. none, λ out. cc, front_of i [] g.J.Begun.start now none)
