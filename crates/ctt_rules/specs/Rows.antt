-- The rows of a timetable, one course after another.
use Rattle.std.specs.Prelude.{◌≡◌, ℕ, ◌+◌, List, filter, nat_le}
use Rattle.ctt_problem.specs.Timetable.{course_row}
use Rattle.ctt_problem.specs.declared.placed.Placed.{Placed}

-- the lectures of this course and of the courses after it
abbrev pub from_course : ℕ → List Placed → List Placed
from_course c t = filter (λ l. nat_le c l.course) t

-- row and rest split the lectures of t from course c on: the row of c, and those of later courses
pub record IsCut (c : ℕ) (t row rest : List Placed) : Type 0 where
  pub front : row ≡ course_row c t
  pub after : rest ≡ from_course (c + 1) t
