-- The invariant of a sheet that stores its lectures in a list.
use Rattle.std.specs.Prelude.{ℕ, ◌*◌, ◌≤◌, List}
use Rattle.ctt_problem.specs.Problem.{Problem, course_count, slot_count}
use Rattle.ctt_problem.specs.declared.placed.Placed.{Placed}
use Rattle.ctt_rules.specs.Hard.{Lawful}

-- a lawful timetable, in a vector with capacity for any lawful timetable
pub record IsListSheet (i : Problem) (t : List Placed) (capacity : ℕ) : Type 0 where
  pub lawful : Lawful i t
  pub room : course_count i * slot_count i ≤ capacity
