use Rattle.ctt_files.proofs.OutputLemmas.{on_err}
use Rattle.ctt_log.specs.Minutes.{CouldNotEnter, IsInMinutes}
use Rattle.ctt_office.proofs.AnswerLemmas.{adds_also, without_log, no_commit, with_log}
use Rattle.ctt_office.proofs.answering.step.Goals as goal

pub returns-in_default-clause-answered : goal.returns-in_default-clause-answered
returns-in_default-clause-answered g c =
    adds_also _ _ _ _ _
    (λ answer is. no_commit c.args.instance.now g.J.Naming.opening c.args.log (IsInMinutes g.W.Sink.taken g.W.Durable.kept g.J.Naming.problem g.J.Begun.start) (CouldNotEnter g.W.Sink.taken g.W.Sink.has_failed g.J.Naming.problem g.J.Begun.start) c.args.event _ _ answer c.in_default.not-Commit is)
    c.take.ensures.answered

pub returns-in_default-clause-unanswered : goal.returns-in_default-clause-unanswered
returns-in_default-clause-unanswered g c = on_err _ (c.take.ensures.uncommitted c.in_default.not-Commit)

pub returns-in-Some-clause-answered : goal.returns-in-Some-clause-answered
returns-in-Some-clause-answered g c =
    adds_also _ _ _ _ _
    (λ answer is. with_log c.args.instance.now g.J.Naming.opening c.args.log c.in-Some.log (IsInMinutes g.W.Sink.taken g.W.Durable.kept g.J.Naming.problem g.J.Begun.start) (CouldNotEnter g.W.Sink.taken g.W.Sink.has_failed g.J.Naming.problem g.J.Begun.start) c.args.event c.in-Commit.field-0 _ _ answer c.in-Some.is c.in-Commit.is is)
    c.commit.ensures.answered

pub returns-in-None-clause-answered : goal.returns-in-None-clause-answered
returns-in-None-clause-answered g c =
    adds_also _ _ _ _ _
    (λ answer is. without_log c.args.instance.now g.J.Naming.opening c.args.log (IsInMinutes g.W.Sink.taken g.W.Durable.kept g.J.Naming.problem g.J.Begun.start) (CouldNotEnter g.W.Sink.taken g.W.Sink.has_failed g.J.Naming.problem g.J.Begun.start) c.args.event c.in-Commit.field-0 _ _ answer c.in-None.is c.in-Commit.is is)
    c.commit_alone.ensures.answered
