-- The first wrong word of a line.
use Rattle.std.specs.Prelude.{ℕ, ◌+◌, ◌-◌, List, [], ◌∷◌, codes, slice_index_or, if◌then◌else◌}
use Rattle.std.specs.Fmt.{decimal}
use Rattle.std.specs.Str.{is_utf8}
use Rattle.ctt_line.specs.Lines.{line}

-- its number, counted from 1, and the word, which is empty if the line ends too early or the word
-- is not UTF-8
pub record BadValue : Type 0 where
  pub at : ℕ
  pub word : List ℕ

-- the word with this number, counted from 1, or the empty word if there is none
abbrev pub bad_word : ℕ → List (List ℕ) → BadValue
bad_word at ws = record { at = at; word = slice_index_or ws (at - 1) [] }

-- the word, if it is not empty, as a list of words
abbrev pub word_if : List ℕ → List (List ℕ)
word_if [] = []
word_if (b ∷ bs) = (b ∷ bs) ∷ []

-- the answer to a line with this wrong word
abbrev pub bad_word_line : BadValue → List ℕ
bad_word_line bad = line (codes "bad" ∷ codes "line" ∷ decimal bad.at ∷ word_if bad.word)

-- the number of the first word that is not UTF-8, counted from n
abbrev pub first_untext : ℕ → List (List ℕ) → ℕ
first_untext n [] = n
first_untext n (w ∷ ws) = if is_utf8 w then first_untext (n + 1) ws else n
