use Rattle.std.proofs.Common.{◌∙◌, ap, sym}
use Rattle.std.proofs.lemmas.List.{drop_all}
use Rattle.serde_json.specs.Data.{array}
use Rattle.serde_json.proofs.Views.{view-Array}
use Rattle.ctt_findings.proofs.ObjectLemmas.{items_before, items_whole}
use Rattle.ctt_commands.specs.Tables.{objects}
use Rattle.ctt_commands.proofs.JsonLemmas.{row_next}
use Rattle.ctt_commands.proofs.json_rows.array.Goals as goal

pub loop-row-preserved : goal.loop-row-preserved
loop-row-preserved c =
    row_next c.args.columns.now c.args.rows.now c.loop-row.row-index c.row-item.result c.loop-row.list.items c.in_ok-object.field-0 c.add.new.list.items c.loop-row-test.true c.row-item.is
    c.in_ok-object.ensures c.in_ok-add.ensures c.loop-row.invariant

pub returns : goal.returns
returns c =
    let made = c.loop-row.list in
    view-Array made ∙ ap array (sym (items_whole made.items) ∙ ap (λ rows. items_before made.items (objects c.args.columns.now rows)) (sym (drop_all c.loop-row.row-index c.args.rows.now c.loop-row-test.false)) ∙ c.loop-row.invariant)
