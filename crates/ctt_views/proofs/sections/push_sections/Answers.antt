use Rattle.std.proofs.Common.{ap, if◌then◌else◌, string_bytes, sym}
use Rattle.ctt_views.specs.Sections.{all_sections, broken_rules, sections}
use Rattle.ctt_views.proofs.TextLemmas.{piece_is}
use Rattle.ctt_views.proofs.sections.push_sections.Goals as goal

pub returns-then-view : goal.returns-then-view
unfolding sections
returns-then-view c =
    let i = c.args.instance.now in
    let v = c.args.view.now in
    let days = c.args.days.now in
    let found = c.args.found.now in
    let a = c.args.assessment.now in
    let rules = broken_rules i v days found a.hard in
    piece_is c.push_broken_rules.result (string_bytes c.args.page.now) (string_bytes c.push_broken_rules.new.page) rules (sections i v days found a.hard a.cost)
    (sym (ap (λ b. if b then rules else all_sections i v days found a.hard a.cost) c.if-view.true)) c.push_broken_rules.ensures

pub returns-else-view : goal.returns-else-view
unfolding sections
returns-else-view c =
    let i = c.args.instance.now in
    let v = c.args.view.now in
    let days = c.args.days.now in
    let found = c.args.found.now in
    let a = c.args.assessment.now in
    let all = all_sections i v days found a.hard a.cost in
    piece_is c.push_all_sections.result (string_bytes c.args.page.now) (string_bytes c.push_all_sections.new.page) all (sections i v days found a.hard a.cost)
    (sym (ap (λ b. if b then broken_rules i v days found a.hard else all) c.if-view.false)) c.push_all_sections.ensures
