use Rattle.std.proofs.Common.{◌≡◌, IfOk, List, subst}
use Rattle.ctt_edits.specs.declared.row.Row.{Row}
use Rattle.ctt_edits.proofs.MarkedRows.{rows_read}
use Rattle.ctt_edits.proofs.reading.reads.Goals as goal

pub returns : goal.returns
returns c = subst (λ (all : List Row). IfOk c.list.result (λ rows. rows.items ≡ all)) (rows_read c.args.instance.now c.args.call.now c.new-rows.result c.add.new.self c.new-rows.ensures c.add.ensures) c.list.ensures
