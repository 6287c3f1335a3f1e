use Rattle.std.proofs.Common.{sym, append-nil, string_bytes}
use Rattle.ctt_views.specs.Report.{barred_row}
use Rattle.ctt_views.proofs.report.push_barred.Goals as goal

pub returns-then-barred : goal.returns-then-barred
unfolding barred_row
returns-then-barred c = rw c.if-barred.true c.push_count.ensures

pub returns-else-barred : goal.returns-else-barred
unfolding barred_row
returns-else-barred c = rw c.if-barred.false (sym (append-nil (string_bytes c.args.page.now)))
