-- The lectures that are missing.
use Rattle.std.specs.Prelude.{ℕ, ◌-◌, Bool, List, length, map, nat_lt}
use Rattle.ctt_problem.specs.Lists.{below}
use Rattle.ctt_problem.specs.Problem.{Problem, course_of, course_count}
use Rattle.ctt_problem.specs.Timetable.{course_row}
use Rattle.ctt_problem.specs.declared.placed.Placed.{Placed}
use Rattle.ctt_edits.specs.declared.shortfall.Shortfall.{Shortfall}

-- how many lectures of the course are not placed
abbrev pub missing_of : Problem → List Placed → ℕ → ℕ
missing_of i t c = (course_of i c).lectures - length (course_row c t)

-- fewer lectures of the course are placed than it has
abbrev pub is_short : Problem → List Placed → ℕ → Bool
is_short i t c = nat_lt (length (course_row c t)) (course_of i c).lectures

-- the course and how many of its lectures are missing
abbrev pub shortfall : Problem → List Placed → ℕ → Shortfall
shortfall i t c = record { course = c; missing = missing_of i t c }

-- the courses with missing lectures, ascending
abbrev pub missing : Problem → List Placed → List Shortfall
missing i t = map (shortfall i t) (below (is_short i t) (course_count i))
