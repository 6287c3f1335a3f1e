use Rattle.ctt_findings.proofs.GrowLemmas.{item_more}
use Rattle.ctt_findings.proofs.lectures.push_of_lectures.Goals as goal

pub loop-lecture-preserved : goal.loop-lecture-preserved
loop-lecture-preserved g c =
    item_more c.args.found.now.items c.loop-lecture.found.items c.push_some.new.list.items (g.K.OfLecture.finding c.args.instance.now) c.args.timetable.now c.loop-lecture.lecture-index c.lecture-item.result c.find.result
    c.loop-lecture-test.true c.lecture-item.is c.find.ensures c.loop-lecture.invariant c.in_ok-push_some.ensures
