-- What closures block in the weeks of teachers.
use Rattle.std.specs.Prelude.{ℕ, Bool}
use Rattle.std.specs.List.{list_all}
use Rattle.ctt_problem.specs.Problem.{Problem, is_closed}
use Rattle.ctt_problem.specs.Taught.{courses_taught_by}

-- closures block all courses of the teacher in the slot
abbrev pub teacher_closed : Problem → ℕ → ℕ → Bool
teacher_closed i n s = list_all (λ c. is_closed i c s) (courses_taught_by i n)
