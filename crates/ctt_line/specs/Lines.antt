-- Lines of words.
use Rattle.std.specs.Prelude.{ℕ, List, [], ◌∷◌, ◌++◌, codes}

-- words, with a blank before each
abbrev pub words_part : List (List ℕ) → List ℕ
words_part [] = []
words_part (w ∷ ws) = codes " " ++ (w ++ words_part ws)

-- the rest of a line: words with a blank before each, and a line feed
abbrev pub rest_of_line : List (List ℕ) → List ℕ
rest_of_line [] = codes "\n"
rest_of_line (w ∷ ws) = codes " " ++ (w ++ rest_of_line ws)

-- a line: words separated by single blanks, and a line feed
abbrev pub line : List (List ℕ) → List ℕ
line [] = codes "\n"
line (w ∷ ws) = w ++ rest_of_line ws
