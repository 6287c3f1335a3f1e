use Rattle.std.proofs.Common.{◌≡◌, ◌≤◌, ◌-◌, ◌++◌, map}
use Rattle.ctt_problem.specs.Lists.{below}
use Rattle.ctt_problem.specs.Problem.{slot_count}
use Rattle.ctt_edits.specs.RowSets.{has_slot}
use Rattle.ctt_edits.specs.declared.row.Row.TheVariants.{Slot}
use Rattle.ctt_edits.proofs.rows_read.RowsRead.list_slots.Given as goal

abbrev pub invariant-loop-slot : goal.invariant-loop-slot
invariant-loop-slot l = (l.rows.items ≡ l.initial.rows.items ++ map Slot (below (has_slot l.self) l.from)) × (l.from ≤ slot_count l.instance)

abbrev pub decreases-loop-slot : goal.decreases-loop-slot
decreases-loop-slot l = slot_count l.instance - l.from
