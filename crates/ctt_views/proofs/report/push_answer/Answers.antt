use Rattle.std.proofs.Common.{rules}
use Rattle.ctt_views.specs.Report.{answer_row}
use Rattle.ctt_views.proofs.report.push_answer.Goals as goal

pub returns-then-answer : goal.returns-then-answer
unfolding answer_row
returns-then-answer c = rw c.if-answer.true (search rules)

pub returns-else-answer : goal.returns-else-answer
unfolding answer_row
returns-else-answer c = rw c.if-answer.false (search rules)
