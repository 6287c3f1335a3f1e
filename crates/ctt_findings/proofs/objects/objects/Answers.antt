use Rattle.std.proofs.Common.{◌≡◌, ◌∙◌, ap, sym}
use Rattle.std.proofs.lemmas.List.{drop_all}
use Rattle.serde_json.specs.Data.{array, no_members, object}
use Rattle.serde_json.proofs.Views.{view-Array}
use Rattle.ctt_findings.specs.Objects.{objects_of, with_facts}
use Rattle.ctt_findings.proofs.ObjectLemmas.{items_before, items_whole, objects_next}
use Rattle.ctt_findings.proofs.objects.objects.Goals as goal

pub loop-finding-preserved : goal.loop-finding-preserved
loop-finding-preserved c =
    objects_next c.args.instance.now c.args.found.now c.loop-finding.finding-index c.finding-item.result c.loop-finding.list.items c.in_ok-object.field-0 c.add.new.list.items c.loop-finding-test.true c.finding-item.is
    (c.in_ok-object.ensures ∙ ap (λ fs. object (with_facts fs no_members)) (c.as_slice.ensures.value ∙ c.facts.ensures)) c.in_ok-add.ensures c.loop-finding.invariant

pub returns : goal.returns
returns c =
    let i = c.args.instance.now in
    let made = c.loop-finding.list in
    view-Array made ∙ ap array (sym (items_whole made.items) ∙ ap (λ fs. items_before made.items (objects_of i fs)) (sym (drop_all c.loop-finding.finding-index c.args.found.now c.loop-finding-test.false)) ∙ c.loop-finding.invariant)
