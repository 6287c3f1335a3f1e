-- The problem that the fields of an instance represent, and their invariant.
use Rattle.std.specs.Prelude.{◌≡◌, ◌<◌, ◌&&◌, ℕ, map, nat_lt}
use Rattle.std.specs.String.{string_bytes}
use Rattle.ctt_problem.specs.Problem.{Problem, IsProblem, course_count, slot_count, room_count, clash}
use Rattle.ctt_problem.specs.Named.{IsNamed}
use Rattle.ctt_problem.specs.BitRows.{BitTable, is_marked_in, marks_of, HasSize}
use Rattle.ctt_problem.specs.Belonging.{AreCurricula}
use Rattle.ctt_problem.specs.Taught.{AreTaught}
use Rattle.ctt_problem.specs.declared.instance.Instance.TheInside.{Inside}

abbrev pub problem_in : Inside → Problem
problem_in i = record {
  name = string_bytes i.name;
  course_names = i.course_names;
  courses = i.courses.items;
  teacher_names = i.teacher_names;
  room_names = i.room_names;
  capacities = i.capacities.items;
  curriculum_names = i.curriculum_names;
  curricula = map (λ q. q.items) i.curricula.items;
  days = i.days;
  periods = i.periods;
  unavailable = marks_of i.unavailable;
  closed = marks_of i.closed;
  barred = marks_of i.barred;
  blocked = marks_of i.blocked;
}

-- the table marks for each course the courses that it clashes with
pub record AreClashes (p : Problem) (rows : BitTable) : Type 0 where
  pub size : HasSize rows (course_count p) (course_count p)
  pub marks : (c d : ℕ) → c < course_count p → is_marked_in rows c d ≡ (nat_lt d (course_count p) && clash p c d)

-- the invariant of an instance
pub record IsInstance (i : Inside) : Type 0 where
  pub problem : IsProblem (problem_in i)
  pub named : IsNamed (problem_in i)
  pub clashes : AreClashes (problem_in i) i.clashes
  pub available : HasSize i.unavailable (course_count (problem_in i)) (slot_count (problem_in i))
  pub closed : HasSize i.closed (course_count (problem_in i)) (slot_count (problem_in i))
  pub barred : HasSize i.barred (course_count (problem_in i)) (room_count (problem_in i))
  pub blocked : HasSize i.blocked (room_count (problem_in i)) (slot_count (problem_in i))
  pub belonging : AreCurricula (problem_in i) (map (λ q. q.items) i.belonging.items)
  pub taught : AreTaught (problem_in i) (map (λ q. q.items) i.taught.items)
