use Rattle.std.proofs.Common.{ap, ◌∙◌}
use Rattle.ctt_findings.specs.Findings.{compactness_of}
use Rattle.ctt_findings.proofs.GrowLemmas.{number_more}
use Rattle.ctt_findings.proofs.compactness.push_compactness.Goals as goal

pub loop-number-preserved : goal.loop-number-preserved
loop-number-preserved c =
    let i = c.args.instance.now in
    let of : _ = compactness_of i c.args.timetable.now in
    number_more c.args.found.now.items c.loop-number.found.items c.push_compactness_of.new.found.items of c.loop-number.number (compactness_of i c.in_ok-rows.rows c.new.result)
    (ap (λ t. compactness_of i t c.new.result) c.in_ok-rows.ensures ∙ ap of c.new.ensures) c.loop-number.invariant c.in_ok-push_compactness_of.ensures
