use Rattle.std.proofs.Common.{OnOk, codes, string_bytes, subst, ◌++◌, ◌≡◌}
use Rattle.ctt_rules.specs.Penalty.{total}
use Rattle.ctt_views.specs.Report.{cost_rows, count_row, total_row}
use Rattle.ctt_views.proofs.TextLemmas.{five_in}
use Rattle.ctt_views.proofs.report.push_costs.Goals as goal

pub returns : goal.returns
unfolding cost_rows
returns c =
    five_in c.push_total.result (string_bytes c.args.page.now) (string_bytes c.push_count.new.page) (string_bytes c.push_count-2.new.page) (string_bytes c.push_count-3.new.page) (string_bytes c.push_count-4.new.page) (string_bytes c.push_total.new.page)
    (count_row (codes "capacity") (codes "capacity") (codes "&#9679;") c.args.cost.now.capacity) (count_row (codes "days") (codes "days") (codes "&#9651;") c.args.cost.now.days) (count_row (codes "compactness") (codes "compactness") (codes "&#9675;") c.args.cost.now.compactness) (count_row (codes "stability") (codes "stability") (codes "&#9671;") c.args.cost.now.stability) (total_row (total c.args.cost.now))
    c.in_ok-push_count.ensures c.in_ok-push_count-2.ensures c.in_ok-push_count-3.ensures c.in_ok-push_count-4.ensures (subst (λ n. OnOk c.push_total.result (string_bytes c.push_total.new.page ≡ string_bytes c.push_count-4.new.page ++ total_row n)) c.total-total.ensures c.push_total.ensures)
