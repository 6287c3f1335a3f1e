-- The rows of a timetable's courses.
use Rattle.std.specs.Prelude.{ℕ, List, ◌≡◌, slice_get, IfSome}
use Rattle.std.specs.Borrow.{Bor}
use Rattle.ctt_problem.specs.Timetable.{course_row}
use Rattle.ctt_problem.specs.declared.placed.Placed.{Placed}

-- the lectures of each course, in the order of the courses
abbrev pub AreRows : List Placed → List (Bor (List Placed)) → Type 0
AreRows t rows = (c : ℕ) → IfSome (slice_get rows c) (λ row. row.now ≡ course_row c t)
