use Rattle.ctt_problem.specs.Problem.{slot_count}
use Rattle.ctt_edits.specs.RowSets.{has_slot}
use Rattle.ctt_edits.specs.declared.row.Row.TheVariants.{Slot}
use Rattle.ctt_edits.proofs.MarkedRows.{row_more, row_done}
use Rattle.ctt_edits.proofs.rows_read.RowsRead.list_slots.Goals as goal

pub loop-slot-preserved : goal.loop-slot-preserved
loop-slot-preserved c =
    row_more Slot (has_slot c.args.self.now) c.loop-slot.from (slot_count c.args.instance.now) c.in-Some.slot c.get-from.result c.loop-slot.rows.items c.push.new.self.items c.args.rows.now.items
    c.in-Some.ensures c.get-from.ensures c.loop-slot.invariant.0 c.in_ok-push.ensures.items

pub returns : goal.returns
returns c =
    row_done Slot (has_slot c.args.self.now) c.loop-slot.from (slot_count c.args.instance.now) c.loop-slot.rows.items c.args.rows.now.items
    c.loop-slot.invariant.1 c.in_default.ensures c.loop-slot.invariant.0
