-- Places in a text: where a word begins, and the line and the column of a place.
use Rattle.std.specs.Prelude.{◌≡◌, ◌⊎◌, ◌<◌, ◌≤◌, ◌-◌, ◌+◌, ℕ, Bool, List, [], ◌∷◌, ◌++◌, codes, count_by, decimal, drop, fold, length, not, nat_le, nat_lt, take, ◌==◌, ◌&&◌, if◌then◌else◌}
use Rattle.std.specs.List.{position_or_len}
use Rattle.ctt_text.specs.Words.{begins_word, words}

-- the n-th word of the text, counted from 1, is at start..end
pub record IsWordAt (text : List ℕ) (n start end : ℕ) : Type 0 where
  pub counted : 0 < n
  pub within : (start < end) × (end ≤ length text)
  pub from_it : drop (n - 1) (words text) ≡ take (end - start) (drop start text) ∷ words (drop end text)

-- the text has no such word
abbrev pub HasNoWord : List ℕ → ℕ → Type 0
HasNoWord text n = (n ≡ 0) ⊎ (length (words text) < n)

-- the bytes before the longest ending of a text that passes the test, or all if none does
unfoldable pub bytes_before : (List ℕ → Bool) → List ℕ → List ℕ
bytes_before passes [] = []
bytes_before passes (b ∷ bs) = if passes (b ∷ bs) then [] else b ∷ bytes_before passes bs

-- the ending has at most so many words
abbrev pub has_at_most : ℕ → List ℕ → Bool
has_at_most count ending = nat_le (length (words ending)) count

-- the bytes up to the end of the first n words, or of the last if there are fewer
abbrev pub through_words : ℕ → List ℕ → List ℕ
through_words n text = bytes_before (has_at_most (length (words text) - n)) text

-- the bytes before word n, counted from 1; if it is missing, those up to the end of the last word
abbrev pub before_word : ℕ → List ℕ → List ℕ
before_word n text = if nat_lt (n - 1) (length (words text))
    then bytes_before (λ ending. begins_word ending && has_at_most (length (words text) - (n - 1)) ending) text
    else through_words (n - 1) text

abbrev pub is_feed : ℕ → Bool
is_feed b = b == 10

-- the bytes after the last line feed
abbrev pub last_line : List ℕ → List ℕ
last_line text = fold (λ line b. if is_feed b then [] else line ++ b ∷ []) [] text

-- the bytes before the first line feed
abbrev pub first_line : List ℕ → List ℕ
first_line text = take (position_or_len is_feed text) text

-- the byte begins a character of UTF-8
abbrev pub begins_char : ℕ → Bool
begins_char b = not (nat_le 128 b && nat_lt b 192)

-- the place after these bytes of a file: its line and its column, which is a character
abbrev pub place_text : List ℕ → List ℕ → List ℕ
place_text file front = file ++ (codes ":" ++ (decimal (1 + count_by is_feed front)
    ++ (codes ":" ++ (decimal (1 + count_by begins_char (last_line front)) ++ codes ": "))))
