-- The lectures of courses in a window of 64 slots, one bit each.
use Rattle.std.specs.Prelude.{ℕ, ◌+◌, Bool, List, slice_index_or, ◌==◌, ◌&&◌, nat_le, nat_lt}
use Rattle.std.specs.Int.{bit_at}
use Rattle.ctt_problem.specs.Problem.{Problem, day_of}
use Rattle.ctt_problem.specs.declared.placed.Placed.{Placed}
use Rattle.ctt_rules.specs.Penalty.{is_alone}

-- the number of a slot, with a gap after each day: slots are adjacent exactly if their numbers are
-- consecutive
abbrev pub spaced : Problem → ℕ → ℕ
spaced i s = s + day_of i s

-- the lecture has this place in the window whose place 1 has the number `first`
abbrev pub stands_at : Problem → ℕ → ℕ → Placed → Bool
stands_at i first place l = spaced i l.slot + 1 == first + place

-- the bit at a place of a word is set
abbrev pub has_bit : ℕ → ℕ → Bool
has_bit word place = bit_at word place == 1

-- the word of a course in a table of words
abbrev pub word_of : List ℕ → ℕ → ℕ
word_of words c = slice_index_or words c 0

-- the lecture is isolated among these, and has one of the places 1 to 62 of the window
abbrev pub is_alone_within : Problem → ℕ → List Placed → Placed → Bool
is_alone_within i first ls l = (nat_le first (spaced i l.slot) && nat_lt (spaced i l.slot) (first + 62)) && is_alone i ls l
