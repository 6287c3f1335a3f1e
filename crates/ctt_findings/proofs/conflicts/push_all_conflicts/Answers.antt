use Rattle.std.proofs.Common.{ap}
use Rattle.ctt_findings.specs.Findings.{conflicts_of}
use Rattle.ctt_findings.proofs.GrowLemmas.{number_more}
use Rattle.ctt_findings.proofs.conflicts.push_all_conflicts.Goals as goal

pub loop-number-preserved : goal.loop-number-preserved
loop-number-preserved c =
    let of : _ = conflicts_of c.args.instance.now c.args.timetable.now in
    number_more c.args.found.now.items c.loop-number.found.items c.push_conflicts_of.new.found.items of c.loop-number.number (of c.new.result) (ap of c.new.ensures)
    c.loop-number.invariant c.in_ok-push_conflicts_of.ensures
