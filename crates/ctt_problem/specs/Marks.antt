-- Marks on the numbers below 2,000, as the bits of 32 words.
use Rattle.std.specs.Prelude.{◌≡◌, ℕ, ◌/◌, ◌%◌, ◌<◌, ◌≤◌, ◌==◌, List, Bool, true, false, length, get_or, Option, Some, None}
use Rattle.std.specs.Int.{bit_at}
use Rattle.ctt_problem.specs.Lists.{count_below}

-- number n is marked by bit n % 64 of word n / 64
unfoldable pub is_marked : List ℕ → ℕ → Bool
is_marked words n = bit_at (get_or words (n / 64) 0) (n % 64) == 1

-- there are 32 words, and no number from 2,000 on is marked
pub record AreMarks (words : List ℕ) : Type 0 where
  pub size : length words ≡ 32
  pub within : (n : ℕ) → 2000 ≤ n → is_marked words n ≡ false

-- how many of the numbers below 2,000 pass a test
unfoldable pub count_marked : (ℕ → Bool) → ℕ
count_marked test = count_below test 2000

-- the least number that passes a test, if any does
abbrev pub IsLeast : (ℕ → Bool) → Option ℕ → Type 0
IsLeast test None = (n : ℕ) → test n ≡ false
IsLeast test (Some n) = (test n ≡ true) × ((m : ℕ) → m < n → test m ≡ false)
