-- The courses of each teacher.
use Rattle.std.specs.Prelude.{◌≡◌, ◌<◌, ◌==◌, ℕ, List, [], length, get_or}
use Rattle.ctt_problem.specs.Lists.{below}
use Rattle.ctt_problem.specs.declared.course_facts.CourseFacts.{CourseFacts}
use Rattle.ctt_problem.specs.Problem.{Problem, course_of, course_count, teacher_count}

-- the teacher of a course in a list of courses
abbrev pub teacher_at : List CourseFacts → ℕ → ℕ
teacher_at courses c = (get_or courses c (record { teacher = 0; lectures = 0; min_days = 0; students = 0 })).teacher

-- the courses of a teacher, ascending
abbrev pub courses_taught_by : Problem → ℕ → List ℕ
courses_taught_by i h = below (λ c. (course_of i c).teacher == h) (course_count i)

-- the lists are the courses of each teacher
pub record AreTaught (p : Problem) (lists : List (List ℕ)) : Type 0 where
  pub size : length lists ≡ teacher_count p
  pub list : (h : ℕ) → h < teacher_count p → get_or lists h [] ≡ courses_taught_by p h
