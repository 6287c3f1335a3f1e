use Rattle.std.proofs.Common.{◌∙◌, [], ◌+◌, take}
use Rattle.std.specs.Option.{option_to_list}
use Rattle.ctt_findings.specs.Findings.{occupancy_from}
use Rattle.ctt_findings.proofs.GrowLemmas.{grown}
use Rattle.ctt_findings.proofs.TakenLemmas.{taken_more, taken_next}
use Rattle.ctt_findings.proofs.occupancy.push_occupancy.Goals as goal

pub loop-lecture-preserved : goal.loop-lecture-preserved
loop-lecture-preserved c =
    let t = c.args.timetable.now in
    let k = c.loop-lecture.lecture-index in
    let x = c.lecture-item.result in
    record {
      size = c.take.ensures.size ∙ c.loop-lecture.invariant.size;
      taken = taken_more t k x c.loop-lecture-test.true c.lecture-item.is c.loop-lecture.taken c.take.new.self c.loop-lecture.invariant.taken c.take.ensures.taken;
      found = grown c.args.found.now.items c.loop-lecture.found.items c.push_some.new.list.items (occupancy_from [] (take k t)) (option_to_list c.occupancy.result) (occupancy_from [] (take (k + 1) t))
          c.loop-lecture.invariant.found c.in_ok-push_some.ensures
          (taken_next t k x c.loop-lecture-test.true c.lecture-item.is c.loop-lecture.taken c.take.result c.occupancy.result c.loop-lecture.invariant.taken c.take.ensures.was c.occupancy.ensures);
    }
