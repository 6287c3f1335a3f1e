use Rattle.std.proofs.Common.{◌+◌, ◌∙◌, [], sym, arith}
use Rattle.ctt_rules.specs.Earlier.{new_conflicts, room_taken}
use Rattle.ctt_rules.proofs.ConflictLemmas.{all_blocks, block_more, no_block, conflicts_tallied, rooms_tallied}
use Rattle.ctt_rules.proofs.sharing.count_sharing.Goals as goal

pub loop-first-init : goal.loop-first-init
loop-first-init c = record {
  conflicts = sym (no_block (new_conflicts c.args.instance.now) c.args.timetable.now []);
  occupancy = sym (no_block room_taken c.args.timetable.now []);
  small = omega arith;
  few = omega arith;
  near = omega arith;
}

pub loop-first-preserved : goal.loop-first-preserved
loop-first-preserved c =
    let n = c.loop-first.first in
    record {
      conflicts = omega (arith, c.loop-first.invariant.conflicts, c.count_block-block.ensures.conflicts, block_more (new_conflicts c.args.instance.now) n (n + 64) (omega arith) c.args.timetable.now);
      occupancy = omega (arith, c.loop-first.invariant.occupancy, c.count_block-block.ensures.occupancy, block_more room_taken n (n + 64) (omega arith) c.args.timetable.now);
      small = omega (arith, c.loop-first.invariant.small, c.count_block-block.ensures.small);
      few = omega (arith, c.loop-first.invariant.few, c.count_block-block.ensures.few);
      near = omega (arith, c.limits_hold.ensures.slots_few);
    }

pub returns-clause-conflicts : goal.returns-clause-conflicts
returns-clause-conflicts c =
    c.loop-first.invariant.conflicts ∙ all_blocks (new_conflicts c.args.instance.now) c.args.instance.now c.args.timetable.now c.loop-first.first c.requires.fits (omega arith)
    ∙ conflicts_tallied c.args.instance.now c.args.timetable.now c.requires.fits

pub returns-clause-occupancy : goal.returns-clause-occupancy
returns-clause-occupancy c =
    c.loop-first.invariant.occupancy ∙ all_blocks room_taken c.args.instance.now c.args.timetable.now c.loop-first.first c.requires.fits (omega arith)
    ∙ rooms_tallied c.args.instance.now c.args.timetable.now c.requires.fits
