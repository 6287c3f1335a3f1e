use Rattle.std.proofs.Common.{string_bytes}
use Rattle.ctt_views.specs.Sections.{all_sections, broken_rules, costs, first}
use Rattle.ctt_views.proofs.TextLemmas.{three_in}
use Rattle.ctt_views.proofs.sections.push_all_sections.Goals as goal

pub returns : goal.returns
unfolding all_sections
returns c =
    let i = c.args.instance.now in
    let v = c.args.view.now in
    let days = c.args.days.now in
    let found = c.args.found.now in
    three_in c.push_costs.result (string_bytes c.args.page.now) (string_bytes c.push_first.new.page) (string_bytes c.push_broken_rules.new.page) (string_bytes c.push_costs.new.page)
    (first i v days found) (broken_rules i v days found c.args.assessment.now.hard) (costs i v days found c.args.assessment.now.cost)
    c.in_ok-push_first.ensures c.in_ok-push_broken_rules.ensures c.push_costs.ensures
