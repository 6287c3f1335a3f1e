-- The curricula of each course.
use Rattle.std.specs.Prelude.{◌≡◌, ◌<◌, ℕ, List, [], length, get_or}
use Rattle.ctt_problem.specs.Lists.{below, has}
use Rattle.ctt_problem.specs.Problem.{Problem, course_count, curriculum_count, members}

-- the curricula of a course, ascending
abbrev pub curricula_of : Problem → ℕ → List ℕ
curricula_of i c = below (λ q. has c (members i q)) (curriculum_count i)

-- the lists are the curricula of each course
pub record AreCurricula (p : Problem) (lists : List (List ℕ)) : Type 0 where
  pub size : length lists ≡ course_count p
  pub list : (c : ℕ) → c < course_count p → get_or lists c [] ≡ curricula_of p c
