-- The soft costs, each a sum over the timetable as a whole.
use Rattle.std.specs.Prelude.{ℕ, ◌+◌, ◌-◌, ◌*◌, Bool, List, filter, sum_by, count_by, ◌==◌, ◌&&◌, ◌||◌, not}
use Rattle.std.specs.List.{list_any}
use Rattle.ctt_problem.specs.Lists.{sum_below, count_below, has}
use Rattle.ctt_problem.specs.Problem.{Problem, course_of, capacity_of, course_count, room_count, day_of}
use Rattle.ctt_problem.specs.Timetable.{course_row}
use Rattle.ctt_problem.specs.declared.placed.Placed.{Placed}
use Rattle.ctt_rules.specs.declared.cost.Cost.{Cost}

-- the students above the capacity of a lecture's room
abbrev pub unseated : Problem → Placed → ℕ
unseated i l = (course_of i l.course).students - capacity_of i l.room

-- the number of different days of these lectures
abbrev pub days_of : Problem → List Placed → ℕ
days_of i ls = count_below (λ d. list_any (λ l. day_of i l.slot == d) ls) i.days

-- the number of different rooms of these lectures
abbrev pub rooms_of : Problem → List Placed → ℕ
rooms_of i ls = count_below (λ r. list_any (λ l. l.room == r) ls) (room_count i)

-- the slots are adjacent: one is directly before or after the other, on the same day
abbrev pub next_to : Problem → ℕ → ℕ → Bool
next_to i s s2 = day_of i s == day_of i s2 && (s + 1 == s2 || s2 + 1 == s)

-- no lecture of ls is in a slot adjacent to that of l
abbrev pub is_alone : Problem → List Placed → Placed → Bool
is_alone i ls l = not (list_any (λ m. next_to i l.slot m.slot) ls)

-- the lectures of a curriculum, which is given by its members
abbrev pub lectures_of : List ℕ → List Placed → List Placed
lectures_of q t = filter (λ l. has l.course q) t

-- five points for each day by which a course with these lectures falls short of its minimum
abbrev pub days_cost : Problem → ℕ → List Placed → ℕ
days_cost i c ls = 5 * ((course_of i c).min_days - days_of i ls)

-- one point for each room of these lectures beyond the first
abbrev pub rooms_cost : Problem → List Placed → ℕ
rooms_cost i ls = rooms_of i ls - 1

-- two points for each of these lectures that is isolated among them
abbrev pub alone_cost : Problem → List Placed → ℕ
alone_cost i ls = 2 * count_by (is_alone i ls) ls

-- the soft costs of a timetable
abbrev pub penalty : Problem → List Placed → Cost
penalty i t = record {
  capacity = sum_by (unseated i) t;
  days = sum_below (λ c. days_cost i c (course_row c t)) (course_count i);
  compactness = sum_by (λ q. alone_cost i (lectures_of q t)) i.curricula;
  stability = sum_below (λ c. rooms_cost i (course_row c t)) (course_count i);
}

-- the sum of the four costs
abbrev pub total : Cost → ℕ
total cost = cost.capacity + cost.days + cost.compactness + cost.stability

-- what a course with these lectures costs under the constraints that are counted course by course
abbrev pub row_cost : Problem → ℕ → List Placed → Cost
row_cost i c ls = record {
  capacity = sum_by (unseated i) ls;
  days = days_cost i c ls;
  compactness = 0;
  stability = rooms_cost i ls;
}

-- the same for a course of a timetable
abbrev pub course_cost : Problem → List Placed → ℕ → Cost
course_cost i t c = row_cost i c (course_row c t)
