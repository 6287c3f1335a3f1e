use Rattle.std.proofs.Common.{rules, ◌≡◌, ◌∙◌, ◌++◌, ap, codes, false, string_bytes}
use Rattle.serde_json.specs.Data.{array}
use Rattle.serde_json.specs.Written.{compact_text, has_float}
use Rattle.ctt_commands.specs.Tables.{objects}
use Rattle.ctt_commands.proofs.JsonLemmas.{rows_no_float}
use Rattle.ctt_commands.proofs.json_rows.json.Goals as goal

pub returns : goal.returns
returns c =
    let columns = c.args.columns.now in
    let rows = c.args.rows.now in
    let written : string_bytes c.in_ok-text.text ≡ compact_text (array (objects columns rows)) =
    c.in_ok-text.ensures.text (ap has_float c.in_ok-array.ensures ∙ rows_no_float columns rows) ∙ ap compact_text c.in_ok-array.ensures in
    search (rules, written)
