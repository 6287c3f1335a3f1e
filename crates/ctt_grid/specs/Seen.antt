-- Counts of a timetable, corrected for lectures that a change removes and adds.
use Rattle.std.specs.Prelude.{◌≡◌, ◌≤◌, length, ℕ, ◌+◌, ◌-◌, Bool, cond, List, sum_by, count_by, ◌==◌, nat_lt}
use Rattle.std.specs.List.{AllByRecursion as Each}
use Rattle.ctt_problem.specs.Lists.{count_below}
use Rattle.ctt_problem.specs.Belonging.{curricula_of}
use Rattle.ctt_problem.specs.BitRows.{is_marked_in}
use Rattle.ctt_problem.specs.Problem.{Problem, slot_count, members, day_of}
use Rattle.ctt_problem.specs.declared.placed.Placed.{Placed}
use Rattle.ctt_rules.specs.Hard.{Lawful}
use Rattle.ctt_grid.specs.CostDelta.{on_day, in_room, in_slot, cost_delta_by}
use Rattle.ctt_grid.specs.Tables.{at}
use Rattle.ctt_grid.specs.Counts.{AreCounts}
use Rattle.ctt_grid.specs.declared.cost_delta.CostDelta.{CostDelta}
use Rattle.ctt_grid.specs.declared.counts_after.CountsAfter.{CountsAfter}

-- the count n with the added lectures that pass p, and without the removed ones
abbrev pub seen : CountsAfter → (Placed → Bool) → ℕ → ℕ
seen v p n = (n + count_by p v.added.items) - count_by p v.removed.items

-- the number of lectures of course c on day d
abbrev pub seen_day : Problem → CountsAfter → ℕ → ℕ → ℕ
seen_day i v c d = seen v (on_day i c d) (at v.base.now.days c d 0)

-- the number of lectures of course c in room r
abbrev pub seen_room : CountsAfter → ℕ → ℕ → ℕ
seen_room v c r = seen v (in_room c r) (at v.base.now.rooms c r 0)

-- the number of lectures of course c
abbrev pub seen_lectures : CountsAfter → ℕ → ℕ
seen_lectures v c = seen v (λ l. l.course == c) (at v.base.now.lectures 0 c 0)

-- the number of lectures of curriculum q in slot s; 0 past the last slot
abbrev pub seen_curriculum : Problem → CountsAfter → ℕ → ℕ → ℕ
seen_curriculum i v q s = cond (nat_lt s (slot_count i)) (seen v (in_slot (members i q) s) (cond (is_marked_in v.base.now.curricula q s) 1 0)) 0

-- the number of days on which course c has a lecture
abbrev pub seen_days : Problem → CountsAfter → ℕ → ℕ
seen_days i v c = count_below (λ d. nat_lt 0 (seen_day i v c d)) i.days

-- the increases and decreases in cost if lecture l is added
abbrev pub seen_delta : Problem → CountsAfter → Placed → CostDelta
seen_delta i v l = cost_delta_by i l (seen_day i v l.course (day_of i l.slot)) (seen_days i v l.course) (seen_lectures v l.course) (seen_room v l.course l.room) (seen_curriculum i v)

-- no curriculum of the lecture's course has a lecture in its slot
abbrev pub NoneThere : Problem → CountsAfter → Placed → Type 0
NoneThere i v l = Each (λ q. seen_curriculum i v q l.slot ≡ 0) (curricula_of i l.course)

-- each curriculum of the lecture's course has at most one lecture in its slot
abbrev pub OneThere : Problem → CountsAfter → Placed → Type 0
OneThere i v l = Each (λ q. seen_curriculum i v q l.slot ≤ 1) (curricula_of i l.course)

-- the corrected counts are those of the timetable t
pub record Sees (i : Problem) (v : CountsAfter) (t : List Placed) : Type 0 where
  pub base : List Placed
  pub lawful : Lawful i base
  pub counts : AreCounts i base v.base.now
  pub balance : (f : Placed → ℕ) → sum_by f t + sum_by f v.removed.items ≡ sum_by f base + sum_by f v.added.items

-- at most n lectures are removed, and at most n are added
pub record HasPlaces (v : CountsAfter) (n : ℕ) : Type 0 where
  pub removed : length v.removed.items ≤ n
  pub added : length v.added.items ≤ n
