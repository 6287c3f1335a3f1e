use Rattle.std.proofs.Common.{codes, string_bytes}
use Rattle.ctt_views.specs.Report.{answer_row, hard_rows, report, shown_costs}
use Rattle.ctt_views.proofs.TextLemmas.{six_in, on_ok}
use Rattle.ctt_views.proofs.report.push_report.Goals as goal

pub returns : goal.returns
unfolding report
returns c =
    six_in c.push_str-2.result (string_bytes c.args.page.now) (string_bytes c.push_str.new.self) (string_bytes c.push_hard.new.page) (string_bytes c.push_shown_costs.new.page) (string_bytes c.push_answer.new.page) (string_bytes c.push_answer-2.new.page) (string_bytes c.push_str-2.new.self)
    (codes "<details><summary><h3 id='report'>Report</h3></summary><table>\n") (hard_rows c.args.instance.now c.args.assessment.now.hard) (shown_costs c.args.plain c.args.assessment.now.cost) (answer_row (codes "lawful") c.args.assessment.now.lawful) (answer_row (codes "complete") c.args.assessment.now.complete) (codes "</table></details>\n")
    c.in_ok-push_str.ensures.bytes c.in_ok-push_hard.ensures c.in_ok-push_shown_costs.ensures c.in_ok-push_answer.ensures c.in_ok-push_answer-2.ensures (on_ok c.push_str-2.result (string_bytes c.push_answer-2.new.page) (string_bytes c.push_str-2.new.self) (codes "</table></details>\n") c.push_str-2.ensures.bytes)
