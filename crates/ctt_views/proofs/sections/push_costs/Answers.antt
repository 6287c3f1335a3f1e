use Rattle.std.proofs.Common.{codes, string_bytes}
use Rattle.ctt_rules.specs.Penalty.{total}
use Rattle.ctt_views.specs.Sections.{costs, costs_start, section}
use Rattle.ctt_views.proofs.TextLemmas.{five_in}
use Rattle.ctt_views.proofs.sections.push_costs.Goals as goal

pub returns : goal.returns
unfolding costs
returns c =
    let i = c.args.instance.now in
    let v = c.args.view.now in
    let days = c.args.days.now in
    let found = c.args.found.now in
    let cost = c.args.cost.now in
    five_in c.push_section-4.result (string_bytes c.args.page.now) (string_bytes c.push_costs_start.new.page) (string_bytes c.push_section.new.page) (string_bytes c.push_section-2.new.page) (string_bytes c.push_section-3.new.page) (string_bytes c.push_section-4.new.page)
    (costs_start (total cost)) (section i v days found (codes "capacity") (codes "&#9679;&#160;too few seats") cost.capacity (codes "point")) (section i v days found (codes "days") (codes "&#9651;&#160;too few days") cost.days (codes "point")) (section i v days found (codes "compactness") (codes "&#9675;&#160;alone") cost.compactness (codes "point")) (section i v days found (codes "stability") (codes "&#9671;&#160;several rooms") cost.stability (codes "point"))
    (rw c.total.ensures at c.in_ok-push_costs_start.ensures) (rw (c.head_of-capacity.ensures.kind, c.head_of-capacity.ensures.title, c.head_of-capacity.ensures.count, c.head_of-capacity.ensures.noun) at c.in_ok-push_section.ensures) (rw (c.head_of-few_days.ensures.kind, c.head_of-few_days.ensures.title, c.head_of-few_days.ensures.count, c.head_of-few_days.ensures.noun) at c.in_ok-push_section-2.ensures) (rw (c.head_of-compactness.ensures.kind, c.head_of-compactness.ensures.title, c.head_of-compactness.ensures.count, c.head_of-compactness.ensures.noun) at c.in_ok-push_section-3.ensures) (rw (c.head_of-stability.ensures.kind, c.head_of-stability.ensures.title, c.head_of-stability.ensures.count, c.head_of-stability.ensures.noun) at c.push_section-4.ensures)
