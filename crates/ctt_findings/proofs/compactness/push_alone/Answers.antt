use Rattle.std.proofs.Common.{not}
use Rattle.ctt_problem.specs.Marks.{is_marked}
use Rattle.ctt_rules.specs.Neighbours.{is_beside}
use Rattle.ctt_findings.specs.Findings.{compactness_finding}
use Rattle.ctt_findings.proofs.GrowLemmas.{item_more}
use Rattle.ctt_findings.proofs.compactness.push_alone.Goals as goal

pub loop-lecture-preserved : goal.loop-lecture-preserved
loop-lecture-preserved c =
    item_more c.args.found.now.items c.loop-lecture.found.items c.push_some.new.list.items
    (λ x. compactness_finding c.args.curriculum (not (is_beside c.args.instance.now (is_marked c.args.slots.now) x.slot)) x) c.args.row.now c.loop-lecture.lecture-index c.lecture-item.result c.alone.result
    c.loop-lecture-test.true c.lecture-item.is c.alone.ensures c.loop-lecture.invariant c.in_ok-push_some.ensures
