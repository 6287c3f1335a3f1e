-- What keeps a lecture from its place, and the test whether a change fits.
use Rattle.std.specs.Prelude.{◌≡◌, ◌↔◌, ◌==◌, ℕ, Bool, true, false, cond, ◌&&◌, nat_le, nat_lt, List, [], ◌∷◌, length, Option, Some, None, is_some, is_none}
use Rattle.std.specs.List.{find}
use Rattle.std.specs.Option.{option_map, option_or}
use Rattle.ctt_problem.specs.Problem.{Problem, course_of, course_count, slot_count, room_count, clash, is_unavailable, is_barred, is_blocked}
use Rattle.ctt_problem.specs.Timetable.{course_row, slot_row}
use Rattle.ctt_problem.specs.declared.placed.Placed.{Placed}
use Rattle.ctt_rules.specs.Hard.{Lawful}
use Rattle.ctt_board.specs.Changes.{room_of, room_at, course_named, apply_at, in_turn, ChangeFits}
use Rattle.ctt_board.specs.declared.cell.Cell.{Cell}

-- the course, the slot and the room are numbers of the instance
abbrev pub is_known : Problem → Placed → Bool
is_known i l = nat_lt l.course (course_count i) && (nat_lt l.slot (slot_count i) && nat_lt l.room (room_count i))

-- what keeps a lecture from a slot and a room
pub data Obstacle : Type 0 where
  already_there : Obstacle
  course_full : Obstacle
  unavailable : Obstacle
  barred : Obstacle
  blocked : Obstacle
  clash_with : ℕ → Obstacle
  taken_by : ℕ → Obstacle

-- the obstacle o, if b holds
abbrev pub obstacle_if : Bool → Obstacle → Option Obstacle
obstacle_if b o = cond b (Some o) None

-- the first obstacle of a lecture by itself, which depends on no row
abbrev pub obstacle_alone : Problem → ℕ → ℕ → ℕ → Option Obstacle
obstacle_alone i c s r =
    option_or (obstacle_if (is_unavailable i c s) unavailable)
    (option_or (obstacle_if (is_barred i c r) barred) (obstacle_if (is_blocked i r s) blocked))

-- the first obstacle of a lecture of course c in slot s and room r, given the row of its course and
-- the row of its slot
abbrev pub obstacle_in : Problem → ℕ → ℕ → ℕ → List Placed → List Placed → Option Obstacle
obstacle_in i c s r course slot =
    option_or (obstacle_if (is_some (room_of (find (λ l. l.slot == s) course))) already_there)
    (option_or (obstacle_if (nat_le (course_of i c).lectures (length course)) course_full)
    (option_or (obstacle_alone i c s r)
    (option_or (option_map clash_with (course_named (find (λ l. clash i c l.course) slot)))
    (option_map taken_by (course_named (find (λ l. l.room == r) slot))))))

-- the first obstacle of a lecture of course c in slot s and room r
abbrev pub obstacle : Problem → List Placed → ℕ → ℕ → ℕ → Option Obstacle
obstacle i t c s r = obstacle_in i c s r (course_row c t) (slot_row s t)

-- a lecture can be added to a lawful timetable
abbrev pub can_place : Problem → List Placed → Placed → Bool
can_place i t l = is_known i l && is_none (obstacle i t l.course l.slot l.room)

-- a removal finds a lecture in its place, or an addition can be made
abbrev pub cell_fits : Problem → List Placed → ℕ → ℕ → Option ℕ → Bool
cell_fits i t c s None = is_some (room_at c s t)
cell_fits i t c s (Some r) = can_place i t (record { course = c; slot = s; room = r })

-- each cell passes the test on the timetable after the earlier cells
abbrev pub fits : Problem → List Cell → List Placed → Bool
fits i [] t = true
fits i (x ∷ xs) t = cell_fits i t x.course x.slot x.room && fits i xs (apply_at x.course x.slot x.room t)

-- for a lawful timetable, the test is true exactly if the change fits
abbrev pub FitsAsTested : Type 0
FitsAsTested = (i : Problem) (cells : List Cell) (t : List Placed) → Lawful i t → in_turn false cells ≡ true → (fits i cells t ≡ true) ↔ ChangeFits i cells t
