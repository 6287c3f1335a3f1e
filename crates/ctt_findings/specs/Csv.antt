-- Comma-separated values: rows of fields, each row on a line.
use Rattle.std.specs.Prelude.{ℕ, Bool, List, [], ◌∷◌, ◌++◌, codes, flat_map, ◌==◌, ◌||◌, if◌then◌else◌}
use Rattle.std.specs.List.{list_any}

-- the bytes for which a field is quoted: a quote, a comma, and the ends of lines
abbrev pub is_special : ℕ → Bool
is_special b = (b == 34) || (b == 44) || (b == 10) || (b == 13)

-- a byte of a quoted field: a quote is doubled
abbrev pub doubled : ℕ → List ℕ
doubled b = if b == 34 then 34 ∷ 34 ∷ [] else b ∷ []

abbrev pub field : List ℕ → List ℕ
field text = if list_any is_special text then codes "\"" ++ (flat_map doubled text ++ codes "\"") else text

-- a field after the first
abbrev pub next_field : List ℕ → List ℕ
next_field text = codes "," ++ field text

abbrev pub csv_line : List (List ℕ) → List ℕ
csv_line [] = codes "\n"
csv_line (text ∷ others) = field text ++ (flat_map next_field others ++ codes "\n")

abbrev pub csv : List (List (List ℕ)) → List ℕ
csv rows = flat_map csv_line rows
