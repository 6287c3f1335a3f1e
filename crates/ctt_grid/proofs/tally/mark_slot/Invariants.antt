use Rattle.std.proofs.Common.{take}
use Rattle.ctt_problem.specs.BitRows.{AddsMarks}
use Rattle.ctt_grid.specs.Counts.{in_one_slot}
use Rattle.ctt_grid.proofs.tally.mark_slot.Given as goal

abbrev pub invariant-loop-curriculum : goal.invariant-loop-curriculum
invariant-loop-curriculum l = AddsMarks l.fn.table l.table (in_one_slot (take l.curriculum-index l.curricula) l.slot)
