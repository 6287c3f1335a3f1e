-- What a timetable that is proposed in place of another is worth.
use Rattle.std.specs.Prelude.{ℕ, ◌+◌, ◌-◌, ◌*◌, Bool, not, ◌&&◌, ◌||◌, ◌==◌, nat_lt, nat_le, List, is_some, ◌≤◌, ◌<◌, ◌^◌}
use Rattle.std.specs.Option.{option_eq}
use Rattle.ctt_problem.specs.Lists.{sum_below, count_below}
use Rattle.ctt_problem.specs.Problem.{Problem, course_count, slot_count}
use Rattle.ctt_problem.specs.declared.placed.Placed.{Placed}
use Rattle.ctt_rules.specs.Hard.{missing_count}
use Rattle.ctt_rules.specs.Penalty.{penalty, total}
use Rattle.ctt_board.specs.Changes.{room_at}
use Rattle.ctt_search.specs.declared.score.Score.{Score}
use Rattle.ctt_search.specs.declared.aim.Aim.{Aim}
use Rattle.ctt_search.specs.declared.aim.Aim.TheVariants.{Cost, Changes}

-- course c has a lecture in slot s of t, and u has no lecture of it there in the same room
abbrev pub is_new : List Placed → List Placed → ℕ → ℕ → Bool
is_new u t c s = is_some (room_at c s t) && not (option_eq (λ (a b : ℕ). a == b) (room_at c s t) (room_at c s u))

-- how many lectures of course c stand in t and not so in u
abbrev pub new_count : Problem → List Placed → List Placed → ℕ → ℕ
new_count i u t c = count_below (is_new u t c) (slot_count i)

-- how many lectures of course c have to be changed to get from u to t: a lecture with another slot
-- or room counts once, and so does one that is placed or dropped
abbrev pub changes_of : Problem → List Placed → List Placed → ℕ → ℕ
changes_of i u t c = new_count i u t c + (new_count i t u c - new_count i u t c)

-- how many lectures have to be changed to get from u to t
abbrev pub changes : Problem → List Placed → List Placed → ℕ
changes i u t = sum_below (changes_of i u t) (course_count i)

-- the missing lectures, the changes from the start, and the penalty
abbrev pub score : Problem → List Placed → List Placed → Score
score i start t = record { missing = missing_count i t; changes = changes i start t; cost = total (penalty i t) }

-- what is compared after the missing lectures
abbrev pub first : Aim → Score → ℕ
first (Cost price) s = s.cost + price * s.changes
first Changes s = s.changes

-- what is compared last
abbrev pub last : Aim → Score → ℕ
last (Cost price) s = s.changes
last Changes s = s.cost

-- the score a is at most b: fewer lectures are missing, or as many and what the aim compares is at
-- most as much, in its order
abbrev pub is_at_most : Aim → Score → Score → Bool
is_at_most aim a b =
    nat_lt a.missing b.missing
    || (a.missing == b.missing && (nat_lt (first aim a) (first aim b) || (first aim a == first aim b && nat_le (last aim a) (last aim b))))

-- the changes and the penalty are within the limits of an instance
pub record IsSmallScore (s : Score) : Type 0 where
  pub changes : s.changes ≤ 4000000
  pub cost : s.cost < 2 ^ 63
