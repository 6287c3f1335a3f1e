use Rattle.std.proofs.Common.{codes, flat_map, string_bytes, take}
use Rattle.ctt_views.specs.Items.{finding_item}
use Rattle.ctt_views.specs.Sections.{first}
use Rattle.ctt_views.proofs.TextLemmas.{on_ok, three_in}
use Rattle.ctt_views.proofs.sections.push_first.Goals as goal

pub returns : goal.returns
unfolding first
returns c =
    three_in c.push_str-2.result (string_bytes c.args.page.now) (string_bytes c.push_str.new.self) (string_bytes c.push_findings.new.page) (string_bytes c.push_str-2.new.self)
    (codes "<details><summary><h3 id='first'>To mend first</h3></summary><ol>\n") (flat_map (finding_item c.args.instance.now c.args.view.now c.args.days.now) (take 5 c.args.found.now)) (codes "</ol></details>\n")
    c.in_ok-push_str.ensures.bytes (rw c.first_five.ensures at c.in_ok-push_findings.ensures) (on_ok c.push_str-2.result (string_bytes c.push_findings.new.page) (string_bytes c.push_str-2.new.self) (codes "</ol></details>\n") c.push_str-2.ensures.bytes)
