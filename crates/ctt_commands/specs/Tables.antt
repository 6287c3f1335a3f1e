-- Rows as text: aligned, and as JSON.
use Rattle.std.specs.Prelude.{ℕ, zero, suc, ◌+◌, ◌-◌, max, false, List, [], ◌∷◌, ◌++◌, codes, chars, fold, flat_map, get_or, length, map, replicate}
use Rattle.serde_json.specs.Data.{Items, Members, array, item, no_items, no_members, object, put}
use Rattle.serde_json.specs.Written.{compact_text}
use Rattle.unicode_width.specs.Width.{str_width}
use Rattle.ctt_commands.specs.Columns.{cell_of, content_data, column_name, content_word}
use Rattle.ctt_commands.specs.declared.column.Column.{Column}
use Rattle.ctt_commands.specs.declared.row.Row.{Row}

-- the cells of a row as words
abbrev pub texts_of : List Column → Row → List (List ℕ)
texts_of columns row = map (λ column. content_word (cell_of row column)) columns

-- the number of cells after the first
abbrev pub others : List (List ℕ) → ℕ
others cells = length cells - 1

-- the lists of the numbers below n, joined
abbrev pub each_below : {X : Type 0} → (ℕ → List X) → ℕ → List X
each_below f zero = []
each_below f (suc n) = each_below f n ++ f n

-- the text in a column
abbrev pub text_at : List (List ℕ) → ℕ → List ℕ
text_at cells k = get_or cells k []

-- ---- aligned: the first cell at the left of its column, and the others at the right of theirs

-- the width of a text in terminal columns
abbrev pub text_width : List ℕ → ℕ
text_width text = str_width false (chars text)

-- the width of the widest cell in a column
abbrev pub widest_cell : ℕ → List (List (List ℕ)) → ℕ
widest_cell k rows = fold (λ n cells. max n (text_width (text_at cells k))) 0 rows

abbrev pub column_widths : List (List ℕ) → List (List (List ℕ)) → List ℕ
column_widths head rows = each_below (λ k. widest_cell k (head ∷ rows) ∷ []) (length head)

-- the blanks that fill a column
abbrev pub column_gap : List ℕ → List (List ℕ) → ℕ → List ℕ
column_gap widths cells k = replicate (get_or widths k 0 - text_width (text_at cells k)) 32

-- a cell after the first
abbrev pub right : List ℕ → List (List ℕ) → ℕ → List ℕ
right widths cells k = codes " " ++ (column_gap widths cells k ++ text_at cells k)

abbrev pub aligned_line : List ℕ → List (List ℕ) → List ℕ
aligned_line widths cells = text_at cells 0 ++ (column_gap widths cells 0
    ++ (each_below (λ k. right widths cells (k + 1)) (others cells) ++ codes "\n"))

abbrev pub aligned : List (List ℕ) → List (List (List ℕ)) → List ℕ
aligned head rows = flat_map (aligned_line (column_widths head rows)) (head ∷ rows)

-- ---- JSON

-- the cells of a row put into members, each under the name of its column
abbrev pub with_cells : Row → List Column → Members → Members
with_cells row [] ms = ms
with_cells row (column ∷ columns) ms =
    with_cells row columns (put (column_name column) (content_data (cell_of row column)) ms)

-- the objects of rows
abbrev pub objects : List Column → List Row → Items
objects columns [] = no_items
objects columns (row ∷ rows) =
    item (object (with_cells row columns no_members)) (objects columns rows)

abbrev pub json : List Column → List Row → List ℕ
json columns rows = compact_text (array (objects columns rows)) ++ codes "\n"
