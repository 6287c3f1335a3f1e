-- Tables of bits.
use Rattle.std.specs.Prelude.{◌≡◌, ◌≤◌, ℕ, ◌+◌, ◌*◌, ◌/◌, ◌%◌, Bool, false, cond, ◌&&◌, ◌||◌, ◌==◌, List, length, take, drop, map}
use Rattle.std.specs.List.{range_with_len}
use Rattle.ctt_problem.specs.Marks.{is_marked}

-- a table of rows of `width` numbers each, with the words that hold their bits
pub record BitTable : Type 0 where
  pub rows : ℕ
  pub width : ℕ
  pub words : List ℕ

-- how many words a row of `width` numbers needs
abbrev pub words_for : ℕ → ℕ
words_for width = (width + 63) / 64

-- the words of a row
abbrev pub words_of : BitTable → ℕ → List ℕ
words_of g row = take (words_for g.width) (drop (row * words_for g.width) g.words)

-- whether a number of a row is marked
unfoldable pub is_marked_in : BitTable → ℕ → ℕ → Bool
is_marked_in g row n = is_marked (words_of g row) n

-- the marks of all rows, one row after another
unfoldable pub marks_of : BitTable → List Bool
marks_of g = map (λ k. is_marked_in g (k / g.width) (k % g.width)) (range_with_len 0 (g.rows * g.width))

-- the table has this many rows and this width
abbrev pub HasSize : BitTable → ℕ → ℕ → Type 0
HasSize g rows width = (g.rows ≡ rows) × (g.width ≡ width)

-- each row has its words, and only numbers below the width are marked
pub record IsBitTable (g : BitTable) : Type 0 where
  pub few : g.width ≤ 2000
  pub size : length g.words ≡ g.rows * words_for g.width
  pub within : (row n : ℕ) → g.width ≤ n → is_marked_in g row n ≡ false

-- one number in one row is marked or unmarked, and all others are unchanged
pub record SetsMark (old new : BitTable) (row number : ℕ) (marked : Bool) : Type 0 where
  pub rows : new.rows ≡ old.rows
  pub width : new.width ≡ old.width
  pub marks : (r n : ℕ) → is_marked_in new r n ≡ cond (r == row && n == number) marked (is_marked_in old r n)

-- the numbers that pass the test are marked in addition
pub record AddsMarks (old new : BitTable) (test : ℕ → ℕ → Bool) : Type 0 where
  pub size : HasSize new old.rows old.width
  pub marks : (r n : ℕ) → is_marked_in new r n ≡ (is_marked_in old r n || test r n)
