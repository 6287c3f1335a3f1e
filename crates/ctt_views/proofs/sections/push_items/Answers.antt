use Rattle.std.proofs.Common.{string_bytes}
use Rattle.ctt_views.specs.Items.{finding_item}
use Rattle.ctt_views.specs.Sections.{is_of_kind}
use Rattle.ctt_views.proofs.TextLemmas.{passes_on}
use Rattle.ctt_views.proofs.sections.push_items.Goals as goal

pub loop-finding-preserved : goal.loop-finding-preserved
loop-finding-preserved c =
    let i = c.args.instance.now in
    passes_on (is_of_kind c.args.kind.now) (finding_item i c.args.view.now c.args.days.now) c.args.found.now c.loop-finding.finding-index c.finding-item.result c.loop-finding-test.true c.finding-item.is
    (string_bytes c.args.page.now) (string_bytes c.loop-finding.page) (string_bytes c.push_if_of_kind.new.page) c.loop-finding.invariant c.in_ok-push_if_of_kind.ensures
