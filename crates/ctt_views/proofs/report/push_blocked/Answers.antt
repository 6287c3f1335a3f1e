use Rattle.std.proofs.Common.{sym, append-nil, string_bytes}
use Rattle.ctt_views.specs.Report.{blocked_row}
use Rattle.ctt_views.proofs.report.push_blocked.Goals as goal

pub returns-then-blocked : goal.returns-then-blocked
unfolding blocked_row
returns-then-blocked c = rw c.if-blocked.true c.push_count.ensures

pub returns-else-blocked : goal.returns-else-blocked
unfolding blocked_row
returns-else-blocked c = rw c.if-blocked.false (sym (append-nil (string_bytes c.args.page.now)))
