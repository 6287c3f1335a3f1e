-- The costs of the courses and curricula that cells touch.
use Rattle.std.specs.Prelude.{ℕ, Bool, cond, List, sum_by, ◌==◌}
use Rattle.std.specs.List.{list_any}
use Rattle.ctt_problem.specs.Lists.{sum_below, has}
use Rattle.ctt_problem.specs.Problem.{Problem, course_count}
use Rattle.ctt_problem.specs.declared.placed.Placed.{Placed}
use Rattle.ctt_rules.specs.Penalty.{course_cost, total, alone_cost, lectures_of}
use Rattle.ctt_board.specs.declared.cell.Cell.{Cell}

-- some cell belongs to course c
abbrev pub touches : List Cell → ℕ → Bool
touches cells c = list_any (λ x. x.course == c) cells

-- some cell belongs to a member of curriculum q
abbrev pub touches_curriculum : List Cell → List ℕ → Bool
touches_curriculum cells q = list_any (λ x. has x.course q) cells

-- the cost, without compactness, of the courses that the cells touch
abbrev pub courses_cost : Problem → List Cell → List Placed → ℕ
courses_cost i cells t = sum_below (λ c. cond (touches cells c) (total (course_cost i t c)) 0) (course_count i)

-- the compactness cost of the curricula that the cells touch
abbrev pub curricula_cost : Problem → List Cell → List Placed → ℕ
curricula_cost i cells t = sum_by (λ q. cond (touches_curriculum cells q) (alone_cost i (lectures_of q t)) 0) i.curricula
