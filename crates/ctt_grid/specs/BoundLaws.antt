-- Laws for the crates above.
use Rattle.std.specs.Prelude.{◌*◌, ◌≤◌, ◌<◌, ◌^◌, List, length}
use Rattle.ctt_problem.specs.Problem.{Problem, IsProblem, course_count, slot_count}
use Rattle.ctt_problem.specs.Timetable.{IsTimetable}
use Rattle.ctt_problem.specs.declared.placed.Placed.{Placed}
use Rattle.ctt_rules.specs.Penalty.{penalty, total}

-- a timetable has at most as many lectures as there are pairs of a course and a slot
abbrev pub LengthIsBounded : Type 0
LengthIsBounded = (i : Problem) (t : List Placed) → IsTimetable i t → length t ≤ course_count i * slot_count i

-- a penalty is below 2^63
abbrev pub PenaltyFits : Type 0
PenaltyFits = (i : Problem) (t : List Placed) → IsProblem i → IsTimetable i t → total (penalty i t) < 2 ^ 63
