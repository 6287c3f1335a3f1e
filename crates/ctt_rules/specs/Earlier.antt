-- What each lecture of a list adds to a count, given the lectures before it.
use Rattle.std.specs.Prelude.{ℕ, ◌+◌, Bool, cond, List, [], ◌∷◌, ◌++◌, count_by, ◌&&◌, nat_le, nat_lt, slice_index_or}
use Rattle.std.specs.List.{list_any}
use Rattle.ctt_problem.specs.Marks.{is_marked}
use Rattle.ctt_problem.specs.Problem.{Problem, course_count, clash}
use Rattle.ctt_problem.specs.declared.placed.Placed.{Placed}
use Rattle.ctt_rules.specs.Hard.{conflicts, share_room}

-- the sum of what each lecture of a list adds; `before` precedes the list
abbrev pub tally : (List Placed → Placed → ℕ) → List Placed → List Placed → ℕ
tally adds before [] = 0
tally adds before (x ∷ xs) = adds before x + tally adds (before ++ x ∷ []) xs

-- the conflicts of a lecture with those before it
abbrev pub new_conflicts : Problem → List Placed → Placed → ℕ
new_conflicts i before x = count_by (λ y. conflicts i y x) before

-- one if the room of the lecture is already taken in its slot, otherwise zero
abbrev pub room_taken : List Placed → Placed → ℕ
room_taken before x = cond (list_any (share_room x) before) 1 0

-- what a lecture adds if its slot is at least `first` and less than `end`, otherwise zero
abbrev pub only_in : ℕ → ℕ → (List Placed → Placed → ℕ) → List Placed → Placed → ℕ
only_in first end adds before x = cond (nat_le first x.slot && nat_lt x.slot end) (adds before x) 0

-- a number is marked in a row of a table
abbrev pub in_row : List (List ℕ) → ℕ → ℕ → Bool
in_row rows r n = is_marked (slice_index_or rows r []) n

-- d is a course of the instance that clashes with c
abbrev pub clashes_with : Problem → ℕ → ℕ → Bool
clashes_with i c d = nat_lt d (course_count i) && clash i c d
