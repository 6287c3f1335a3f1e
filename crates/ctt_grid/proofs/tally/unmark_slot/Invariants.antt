use Rattle.std.proofs.Common.{take}
use Rattle.ctt_grid.specs.Counts.{TakesMarks, in_one_slot}
use Rattle.ctt_grid.proofs.tally.unmark_slot.Given as goal

abbrev pub invariant-loop-curriculum : goal.invariant-loop-curriculum
invariant-loop-curriculum l = TakesMarks l.fn.table l.table (in_one_slot (take l.curriculum-index l.curricula) l.slot)
