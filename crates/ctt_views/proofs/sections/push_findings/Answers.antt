use Rattle.std.proofs.Common.{string_bytes}
use Rattle.ctt_views.specs.Items.{finding_item}
use Rattle.ctt_views.proofs.TextLemmas.{item_on}
use Rattle.ctt_views.proofs.sections.push_findings.Goals as goal

pub loop-finding-preserved : goal.loop-finding-preserved
loop-finding-preserved c =
    item_on (finding_item c.args.instance.now c.args.view.now c.args.days.now) c.args.found.now c.loop-finding.finding-index c.finding-item.result c.loop-finding-test.true c.finding-item.is
    (string_bytes c.args.page.now) (string_bytes c.loop-finding.page) (string_bytes c.push_finding.new.page) c.loop-finding.invariant c.in_ok-push_finding.ensures
