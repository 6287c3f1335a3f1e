use Rattle.std.proofs.Common.{append-nil, string_bytes, sym}
use Rattle.ctt_views.specs.Report.{shown_costs}
use Rattle.ctt_views.proofs.report.push_shown_costs.Goals as goal

pub returns-then-plain : goal.returns-then-plain
unfolding shown_costs
returns-then-plain c = rw c.if-plain.true (sym (append-nil (string_bytes c.args.page.now)))

pub returns-else-plain : goal.returns-else-plain
unfolding shown_costs
returns-else-plain c = rw c.if-plain.false c.push_costs.ensures
