-- The hard rules, and how often they are broken.
use Rattle.std.specs.Prelude.{ℕ, ◌+◌, ◌-◌, ◌≤◌, ◌≡◌, Bool, false, List, [], ◌∷◌, length, count_by, ◌==◌, ◌&&◌}
use Rattle.std.specs.List.{AllByRecursion as Each}
use Rattle.ctt_problem.specs.Lists.{Pairwise, sum_below}
use Rattle.ctt_problem.specs.Problem.{Problem, course_of, course_count, slot_count, room_count, clash, is_unavailable, is_barred, is_blocked}
use Rattle.ctt_problem.specs.Timetable.{IsTimetable, course_row}
use Rattle.ctt_problem.specs.declared.placed.Placed.{Placed}
use Rattle.ctt_rules.specs.declared.hard.Hard.{Hard}

-- the lectures are in one slot, and their courses clash
abbrev pub conflicts : Problem → Placed → Placed → Bool
conflicts i a b = a.slot == b.slot && clash i a.course b.course

-- the lectures are in one slot and one room
abbrev pub share_room : Placed → Placed → Bool
share_room a b = a.slot == b.slot && a.room == b.room

-- a lecture breaks no rule by itself: its course is available in the slot, and its room is neither
-- barred for the course nor blocked in the slot
abbrev pub IsAllowed : Problem → Placed → Type 0
IsAllowed i l = (is_unavailable i l.course l.slot ≡ false) × (is_barred i l.course l.room ≡ false) × (is_blocked i l.room l.slot ≡ false)

-- the timetable breaks no hard rule, missing lectures aside
pub record Lawful (i : Problem) (t : List Placed) : Type 0 where
  pub timetable : IsTimetable i t
  pub conflict_free : Pairwise (λ a b. conflicts i a b ≡ false) t
  pub allowed : Each (IsAllowed i) t
  pub rooms_apart : Pairwise (λ a b. share_room a b ≡ false) t
  pub few : (c : ℕ) → length (course_row c t) ≤ (course_of i c).lectures

-- the timetable is lawful and has all lectures of each course
pub record Complete (i : Problem) (t : List Placed) : Type 0 where
  pub lawful : Lawful i t
  pub all_placed : (c : ℕ) → length (course_row c t) ≡ (course_of i c).lectures

-- the missing and surplus lectures of all courses
abbrev pub missing_count : Problem → List Placed → ℕ
missing_count i t = sum_below (λ c. ((course_of i c).lectures - length (course_row c t)) + (length (course_row c t) - (course_of i c).lectures)) (course_count i)

-- pairs of lectures in one slot, with courses that clash
abbrev pub conflict_count : Problem → List Placed → ℕ
conflict_count i [] = 0
conflict_count i (x ∷ xs) = count_by (conflicts i x) xs + conflict_count i xs

-- lectures in slots in which their courses are unavailable
abbrev pub unavailable_count : Problem → List Placed → ℕ
unavailable_count i t = count_by (λ l. is_unavailable i l.course l.slot) t

-- lectures in rooms that are barred for their courses
abbrev pub barred_count : Problem → List Placed → ℕ
barred_count i t = count_by (λ l. is_barred i l.course l.room) t

-- lectures in rooms in slots in which the rooms are blocked
abbrev pub blocked_count : Problem → List Placed → ℕ
blocked_count i t = count_by (λ l. is_blocked i l.room l.slot) t

-- lectures beyond the first in each room and slot
abbrev pub occupancy_count : Problem → List Placed → ℕ
occupancy_count i t = sum_below (λ r. sum_below (λ s. count_by (λ l. l.room == r && l.slot == s) t - 1) (slot_count i)) (room_count i)

-- how often a timetable breaks each of the hard rules
abbrev pub hard_counts : Problem → List Placed → Hard
hard_counts i t = record {
  lectures = missing_count i t;
  conflicts = conflict_count i t;
  availability = unavailable_count i t;
  occupancy = occupancy_count i t;
  barred = barred_count i t;
  blocked = blocked_count i t;
}
