-- The problem that the parts of an instance state: in it nothing is closed, and no room is barred or
-- blocked.
use Rattle.std.specs.Prelude.{◌*◌, false, length, map, replicate}
use Rattle.ctt_problem.specs.Problem.{Problem}
use Rattle.ctt_problem.specs.BitRows.{marks_of}
use Rattle.ctt_problem.specs.declared.instance.parts.Parts.{Parts}

abbrev pub problem_by : Parts → Problem
problem_by p = record {
  name = p.name.now;
  course_names = p.course_names;
  courses = p.courses.items;
  teacher_names = p.teacher_names;
  room_names = p.room_names;
  capacities = p.capacities.items;
  curriculum_names = p.curriculum_names;
  curricula = map (λ q. q.items) p.curricula.items;
  days = p.days;
  periods = p.periods;
  unavailable = marks_of p.unavailable;
  closed = replicate (length p.courses.items * (p.days * p.periods)) false;
  barred = replicate (length p.courses.items * length p.capacities.items) false;
  blocked = replicate (length p.capacities.items * (p.days * p.periods)) false;
}
