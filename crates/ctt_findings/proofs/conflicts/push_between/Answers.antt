use Rattle.ctt_problem.specs.Marks.{is_marked}
use Rattle.ctt_findings.specs.Findings.{conflict_finding}
use Rattle.ctt_findings.proofs.GrowLemmas.{item_more}
use Rattle.ctt_findings.proofs.conflicts.push_between.Goals as goal

pub loop-lecture-preserved : goal.loop-lecture-preserved
loop-lecture-preserved c =
    item_more c.args.found.now.items c.loop-lecture.found.items c.push_some.new.list.items (conflict_finding c.args.instance.now c.args.course (is_marked c.args.slots.now)) c.args.row.now c.loop-lecture.lecture-index c.lecture-item.result c.conflict.result
    c.loop-lecture-test.true c.lecture-item.is c.conflict.ensures c.loop-lecture.invariant c.in_ok-push_some.ensures
