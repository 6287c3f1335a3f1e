use Rattle.std.proofs.Common.{codes, string_bytes}
use Rattle.ctt_views.specs.Bodies.{findings_part}
use Rattle.ctt_views.specs.Report.{report}
use Rattle.ctt_views.specs.Sections.{sections}
use Rattle.ctt_views.proofs.TextLemmas.{four_in, on_ok}
use Rattle.ctt_views.proofs.body.push_findings_part.Goals as goal

pub returns : goal.returns
unfolding findings_part
returns c =
    let i = c.args.instance.now in
    let v = c.args.view.now in
    let a = c.args.assessment.now in
    four_in c.push_str-2.result (string_bytes c.args.page.now) (string_bytes c.push_str.new.self) (string_bytes c.push_report.new.page) (string_bytes c.push_sections.new.page) (string_bytes c.push_str-2.new.self)
    (codes "<div id='found'><h2 id='findings'>Findings</h2>\n<p>Days and periods are counted from 1.</p>\n") (report v.plain i a.hard a.cost a.lawful a.complete) (sections i v c.args.days.now c.args.found.now a.hard a.cost) (codes "</div></div>\n")
    c.in_ok-push_str.ensures.bytes c.in_ok-push_report.ensures c.in_ok-push_sections.ensures (on_ok c.push_str-2.result (string_bytes c.push_sections.new.page) (string_bytes c.push_str-2.new.self) (codes "</div></div>\n") c.push_str-2.ensures.bytes)
