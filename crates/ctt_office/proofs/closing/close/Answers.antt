use Rattle.ctt_office.proofs.RecordedLemmas.{is_recorded}
use Rattle.ctt_office.proofs.closing.close.Goals as goal

pub returns-clause-recorded : goal.returns-clause-recorded
returns-clause-recorded g c =
    is_recorded g.W.Sink.taken g.J.Naming.problem g.J.Naming.opening g.J.Begun.start c.close_all-closed.result.1 c.close_all-closed.result.0 c.close_all-closed.result.2 (λ text. text.items) c.args.ended c.check_end.result c.last_lines-text.result
    c.last_lines-text.ensures.legal c.last_lines-text.ensures.lines c.last_lines-text.ensures.well c.check_end.ensures.well c.close_all-closed.ensures.whole

pub returns-clause-fault : goal.returns-clause-fault
returns-clause-fault g c = λ seats ended. c.last_lines-text.ensures.fault seats (c.check_end.ensures.fault seats ended)
