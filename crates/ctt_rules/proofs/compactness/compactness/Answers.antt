use Rattle.std.proofs.Common.{◌∙◌, arith}
use Rattle.ctt_rules.specs.Penalty.{is_alone, lectures_of}
use Rattle.ctt_rules.proofs.WindowLemmas.{none_before, window_more, all_before, alone_few}
use Rattle.ctt_rules.proofs.compactness.compactness.Goals as goal

pub loop-first-init : goal.loop-first-init
loop-first-init c = record {
  so_far = none_before c.args.instance.now c.args.timetable.now c.requires;
  small = omega arith;
  near = omega arith;
}

pub loop-first-preserved : goal.loop-first-preserved
loop-first-preserved c = record {
  so_far = omega (arith, c.loop-first.invariant.so_far, c.alone_within-total.ensures.value, window_more c.args.instance.now c.args.timetable.now c.requires c.loop-first.first);
  small = omega (arith, c.loop-first.invariant.small, c.alone_within-total.ensures.bound);
  near = omega (arith, c.limits_hold.ensures.slots_few, c.limits_hold.ensures.days_few);
}

pub returns-clause-value : goal.returns-clause-value
returns-clause-value c = c.loop-first.invariant.so_far ∙ all_before c.args.instance.now c.args.timetable.now c.requires c.loop-first.first (omega arith)

pub returns-clause-bound : goal.returns-clause-bound
returns-clause-bound c =
    let i = c.args.instance.now in
    let t = c.args.timetable.now in
    omega (arith, c.loop-first.invariant.so_far, all_before i t c.requires c.loop-first.first (omega arith), alone_few i t c.requires (λ q. is_alone i (lectures_of q t)) c.limits_hold.ensures)
