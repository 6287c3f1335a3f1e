-- The objects of rows, which contain no float.
use Rattle.std.proofs.Common.{◌≡◌, ℕ, ◌+◌, ◌<◌, ◌||◌, false, List, [], ◌∷◌, ◌++◌, Result, Ok, Err, drop, get_or, length, refl, sym, ap, ap₂, ◌∙◌}
use Rattle.std.specs.Global.{Global}
use Rattle.std.specs.declared.string.String.{String}
use Rattle.std.proofs.lemmas.List.{drop_more}
use Rattle.serde_json.specs.Data.{Items, Members, array, item, no_members, object, put}
use Rattle.serde_json.specs.View.{view}
use Rattle.serde_json.specs.Written.{has_float, items_have_float, members_have_float}
use Rattle.serde_json.specs.declared.value.Value.{Value}
use Rattle.ctt_findings.proofs.ObjectLemmas.{items_before, items_push, put_no_float}
use Rattle.ctt_commands.specs.Columns.{Content, answer, cell_of, count, content_data, column_name, nothing, text}
use Rattle.ctt_commands.specs.Tables.{objects, with_cells}
use Rattle.ctt_commands.specs.declared.column.Column.{Column}
use Rattle.ctt_commands.specs.declared.row.Row.{Row}

content_no_float : (c : Content) → has_float (content_data c) ≡ false
content_no_float (text t) = refl
content_no_float (count n) = refl
content_no_float (answer b) = refl
content_no_float nothing = refl

cells_no_float : (row : Row) (columns : List Column) (ms : Members) → members_have_float ms ≡ false → members_have_float (with_cells row columns ms) ≡ false
cells_no_float row [] ms h = h
cells_no_float row (column ∷ columns) ms h =
    cells_no_float row columns (put (column_name column) (content_data (cell_of row column)) ms) (put_no_float (column_name column) (content_data (cell_of row column)) ms (content_no_float (cell_of row column)) h)

pub rows_no_float : (columns : List Column) (rows : List Row) → items_have_float (objects columns rows) ≡ false
rows_no_float columns [] = refl
rows_no_float columns (row ∷ rows) = ap₂ (λ a b. a || b) (cells_no_float row columns no_members refl) (rows_no_float columns rows)

-- one more row
pub row_next : (columns : List Column) (rows : List Row) (k : ℕ) (row : Row) (vs : List Value) (v : Value) (more : List Value) → k < length rows → row ≡ get_or rows k row
    → view v ≡ object (with_cells row columns no_members) → more ≡ vs ++ v ∷ [] → items_before vs (objects columns (drop k rows)) ≡ objects columns rows
    → items_before more (objects columns (drop (k + 1) rows)) ≡ objects columns rows
row_next columns rows k row vs v more lt at is grown so_far =
    let rest : Items = objects columns (drop (k + 1) rows) in
    ap (λ ws. items_before ws rest) grown ∙ sym (items_push vs v rest) ∙ ap (λ d. items_before vs (item d rest)) is
    ∙ ap (λ left. items_before vs (objects columns left)) (sym (drop_more rows k row lt ∙ ap (λ r. r ∷ drop (k + 1) rows) (sym at))) ∙ so_far
