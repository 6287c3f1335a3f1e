-- What adding one lecture does to the penalty, by counts of the lectures before it.
use Rattle.std.specs.Prelude.{◌≡◌, ◌≤◌, ℕ, ℤ, pos, ◌-ℤ◌, ◌+◌, ◌-◌, ◌*◌, Bool, cond, List, length, sum_by, count_by, ◌==◌, ◌&&◌, nat_lt}
use Rattle.ctt_problem.specs.Lists.{has}
use Rattle.ctt_problem.specs.Belonging.{curricula_of}
use Rattle.ctt_problem.specs.Problem.{Problem, course_of, members, day_of, period_of}
use Rattle.ctt_problem.specs.Timetable.{course_row}
use Rattle.ctt_problem.specs.declared.placed.Placed.{Placed}
use Rattle.ctt_grid.specs.declared.cost_delta.CostDelta.{CostDelta}
use Rattle.ctt_rules.specs.declared.cost.Cost.{Cost}
use Rattle.ctt_rules.specs.Penalty.{penalty, unseated, days_of}
use Rattle.ctt_rules.specs.Neighbours.{is_beside}

-- a lecture of course c on day d
abbrev pub on_day : Problem → ℕ → ℕ → Placed → Bool
on_day i c d l = l.course == c && day_of i l.slot == d

-- a lecture of course c in room r
abbrev pub in_room : ℕ → ℕ → Placed → Bool
in_room c r l = l.course == c && l.room == r

-- a lecture of one of the courses q in slot s
abbrev pub in_slot : List ℕ → ℕ → Placed → Bool
in_slot q s l = has l.course q && l.slot == s

-- the number of lectures in slot s that stand alone, if slot k has f k lectures
abbrev pub alone_at : Problem → (ℕ → ℕ) → ℕ → ℕ
alone_at i f s = cond (is_beside i (λ k. nat_lt 0 (f k)) s) 0 (f s)

-- the number of lectures in the slot before s on the same day, if slot k has f k lectures
abbrev pub count_before : Problem → (ℕ → ℕ) → ℕ → ℕ
count_before i f s = cond (nat_lt 0 (period_of i s)) (f (s - 1)) 0

-- the number of lectures in the slot after s on the same day, if slot k has f k lectures
abbrev pub count_in_next : Problem → (ℕ → ℕ) → ℕ → ℕ
count_in_next i f s = cond (nat_lt (period_of i s + 1) i.periods) (f (s + 1)) 0

-- the number of lectures in the slots beside s that stand alone
abbrev pub alone_beside : Problem → (ℕ → ℕ) → ℕ → ℕ
alone_beside i f s = cond (nat_lt 0 (period_of i s)) (alone_at i f (s - 1)) 0 + cond (nat_lt (period_of i s + 1) i.periods) (alone_at i f (s + 1)) 0

-- 1 if a further lecture in slot s would stand alone, else 0
abbrev pub stands_alone : Problem → (ℕ → ℕ) → ℕ → ℕ
stands_alone i f s = cond (is_beside i (λ k. nat_lt 0 (f k)) s) 0 1

-- the number of lectures of the courses q in slot s
abbrev pub count_in_slot : List ℕ → List Placed → ℕ → ℕ
count_in_slot q t s = count_by (in_slot q s) t

-- the increases and decreases in cost if lecture l is added, given the number of lectures of its
-- course on its day, of days of its course, of lectures of its course and of those in its room, and
-- the number of lectures of each curriculum by slot
abbrev pub cost_delta_by : Problem → Placed → ℕ → ℕ → ℕ → ℕ → (ℕ → ℕ → ℕ) → CostDelta
cost_delta_by i l on_its_day days lectures in_its_room curricula = record {
  seats = unseated i l;
  day = cond (on_its_day == 0 && nat_lt days (course_of i l.course).min_days) 5 0;
  alone = 2 * sum_by (λ q. stands_alone i (curricula q) l.slot) (curricula_of i l.course);
  lone_neighbours = 2 * sum_by (λ q. alone_beside i (curricula q) l.slot) (curricula_of i l.course);
  room = cond (in_its_room == 0 && nat_lt 0 lectures) 1 0;
}

-- the increases and decreases in cost if lecture l is added to the timetable t
abbrev pub cost_delta : Problem → List Placed → Placed → CostDelta
cost_delta i t l = cost_delta_by i l (count_by (on_day i l.course (day_of i l.slot)) t) (days_of i (course_row l.course t)) (length (course_row l.course t)) (count_by (in_room l.course l.room) t) (λ q. count_in_slot (members i q) t)

-- the costs of u are those of t with the increases and decreases of j
pub record DiffersBy (i : Problem) (t u : List Placed) (j : CostDelta) : Type 0 where
  pub capacity : (penalty i u).capacity ≡ (penalty i t).capacity + j.seats
  pub days : (penalty i u).days + j.day ≡ (penalty i t).days
  pub compactness : (penalty i u).compactness + j.lone_neighbours ≡ (penalty i t).compactness + j.alone
  pub stability : (penalty i u).stability ≡ (penalty i t).stability + j.room

-- bounds of the parts
pub record IsSmallDelta (j : CostDelta) : Type 0 where
  pub seats : j.seats ≤ 999999999
  pub day : j.day ≤ 5
  pub alone : j.alone ≤ 40000
  pub lone_neighbours : j.lone_neighbours ≤ 400000
  pub room : j.room ≤ 1

-- the costs with the lecture, given those without it
abbrev pub with_delta : Cost → CostDelta → Cost
with_delta cost j = record {
  capacity = cost.capacity + j.seats;
  days = cost.days - j.day;
  compactness = (cost.compactness + j.alone) - j.lone_neighbours;
  stability = cost.stability + j.room;
}

-- the costs without the lecture, given those with it
abbrev pub without_delta : Cost → CostDelta → Cost
without_delta cost j = record {
  capacity = cost.capacity - j.seats;
  days = cost.days + j.day;
  compactness = (cost.compactness + j.lone_neighbours) - j.alone;
  stability = cost.stability - j.room;
}

-- what the lecture adds to the penalty
abbrev pub gain_of : CostDelta → ℤ
gain_of j = pos (j.seats + j.alone + j.room) -ℤ pos (j.day + j.lone_neighbours)
