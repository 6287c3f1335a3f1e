-- Worked cases: the courses alg, geo and top are 0, 1 and 2, the rooms A and B are 0 and 1, and
-- there are two days of three periods.
use Rattle.std.proofs.Common.{◌≡◌, ℕ, List, [], ◌∷◌, true, false, refl}
use Rattle.ctt_problem.specs.Problem.{Problem}
use Rattle.ctt_problem.specs.declared.placed.Placed.{Placed}
use Rattle.ctt_rules.specs.Penalty.{penalty, total, course_cost}
use Rattle.ctt_rules.specs.Hard.{hard_counts}
use Rattle.ctt_rules.specs.declared.cost.Cost.{Cost}
use Rattle.ctt_rules.specs.declared.hard.Hard.{Hard}

-- geo is unavailable in slot 0; alg and geo are the members of the only curriculum; alg and top
-- have the same teacher
abbrev small : Problem
small = record {
  name = [];
  course_names = [] ∷ [] ∷ [] ∷ [];
  courses = record { teacher = 0; lectures = 2; min_days = 2; students = 30 } ∷ record { teacher = 1; lectures = 2; min_days = 1; students = 20 } ∷ record { teacher = 0; lectures = 1; min_days = 1; students = 50 } ∷ [];
  teacher_names = [] ∷ [] ∷ [];
  room_names = [] ∷ [] ∷ [];
  capacities = 25 ∷ 40 ∷ [];
  curriculum_names = [] ∷ [];
  curricula = (0 ∷ 1 ∷ []) ∷ [];
  days = 2;
  periods = 3;
  unavailable = false ∷ false ∷ false ∷ false ∷ false ∷ false ∷ true ∷ false ∷ false ∷ false ∷ false ∷ false ∷ false ∷ false ∷ false ∷ false ∷ false ∷ false ∷ [];
  closed = false ∷ false ∷ false ∷ false ∷ false ∷ false ∷ false ∷ false ∷ false ∷ false ∷ false ∷ false ∷ false ∷ false ∷ false ∷ false ∷ false ∷ false ∷ [];
  barred = false ∷ false ∷ false ∷ false ∷ false ∷ false ∷ [];
  blocked = false ∷ false ∷ false ∷ false ∷ false ∷ false ∷ false ∷ false ∷ false ∷ false ∷ false ∷ false ∷ [];
}

abbrev at : ℕ → ℕ → ℕ → Placed
at c s r = record { course = c; slot = s; room = r }

abbrev cost : ℕ → ℕ → ℕ → ℕ → Cost
cost a b c d = record { capacity = a; days = b; compactness = c; stability = d }

abbrev counts : ℕ → ℕ → ℕ → ℕ → Hard
counts a b c d = record { lectures = a; conflicts = b; availability = c; occupancy = d; barred = 0; blocked = 0 }

abbrev full : List Placed
full = at 0 0 0 ∷ at 0 3 1 ∷ at 1 1 0 ∷ at 1 5 0 ∷ at 2 2 1 ∷ []

full_cost : penalty small full ≡ cost 15 0 4 1
full_cost = refl

full_total : total (penalty small full) ≡ 20
full_total = refl

full_counts : hard_counts small full ≡ counts 0 0 0 0
full_counts = refl

-- the counts if room A is barred for alg, or for top, which has no lecture there
barred_counts : hard_counts (record small { barred = true ∷ false ∷ false ∷ false ∷ false ∷ false ∷ [] }) full ≡ record { lectures = 0; conflicts = 0; availability = 0; occupancy = 0; barred = 1; blocked = 0 }
barred_counts = refl

elsewhere_counts : hard_counts (record small { barred = false ∷ false ∷ false ∷ false ∷ true ∷ false ∷ [] }) full ≡ counts 0 0 0 0
elsewhere_counts = refl

-- the counts if room A is blocked in slots 1, 2 and 5, and room B in slot 0
blocked_counts : hard_counts (record small { blocked = false ∷ true ∷ true ∷ false ∷ false ∷ true ∷ true ∷ false ∷ false ∷ false ∷ false ∷ false ∷ [] }) full ≡ record { lectures = 0; conflicts = 0; availability = 0; occupancy = 0; barred = 0; blocked = 2 }
blocked_counts = refl

-- the counts if alg is closed in slots 3 and 4
closed_counts : hard_counts (record small { closed = false ∷ false ∷ false ∷ true ∷ true ∷ false ∷ false ∷ false ∷ false ∷ false ∷ false ∷ false ∷ false ∷ false ∷ false ∷ false ∷ false ∷ false ∷ [] }) full ≡ counts 0 0 1 0
closed_counts = refl

course_costs : course_cost small full 0 ∷ course_cost small full 2 ∷ course_cost small [] 0 ∷ [] ≡ cost 5 0 0 1 ∷ cost 10 0 0 0 ∷ cost 0 10 0 0 ∷ []
course_costs = refl

empty_cost : penalty small [] ≡ cost 0 20 0 0
empty_cost = refl

empty_counts : hard_counts small [] ≡ counts 5 0 0 0
empty_counts = refl

-- the last slot of a day is not adjacent to the first slot of the next
abbrev over_night : List Placed
over_night = at 0 2 0 ∷ at 1 3 0 ∷ []

over_night_cost : penalty small over_night ≡ cost 5 10 4 0
over_night_cost = refl

over_night_counts : hard_counts small over_night ≡ counts 3 0 0 0
over_night_counts = refl

-- two lectures in one room, the first in a slot in which its course is unavailable
abbrev crowded : List Placed
crowded = at 1 0 1 ∷ at 2 0 1 ∷ []

crowded_cost : penalty small crowded ≡ cost 10 10 2 0
crowded_cost = refl

crowded_counts : hard_counts small crowded ≡ counts 3 0 1 1
crowded_counts = refl

-- geo is closed in slot 0, too
twice_counts : hard_counts (record small { closed = false ∷ false ∷ false ∷ false ∷ false ∷ false ∷ true ∷ false ∷ false ∷ false ∷ false ∷ false ∷ false ∷ false ∷ false ∷ false ∷ false ∷ false ∷ [] }) crowded ≡ counts 3 0 1 1
twice_counts = refl

-- two lectures of one teacher in one slot
abbrev doubled : List Placed
doubled = at 0 0 0 ∷ at 2 0 1 ∷ []

doubled_cost : penalty small doubled ≡ cost 15 10 2 0
doubled_cost = refl

doubled_counts : hard_counts small doubled ≡ counts 3 1 0 0
doubled_counts = refl
