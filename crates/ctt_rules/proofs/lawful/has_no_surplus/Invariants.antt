use Rattle.std.proofs.Common.{ℕ, ◌≤◌, ◌<◌, length}
use Rattle.ctt_problem.specs.Problem.{course_of}
use Rattle.ctt_problem.specs.Timetable.{course_row}
use Rattle.ctt_rules.proofs.lawful.has_no_surplus.Given as goal

abbrev pub invariant-loop-number : goal.invariant-loop-number
invariant-loop-number l = (c : ℕ) → c < l.number → length (course_row c l.timetable) ≤ (course_of l.instance c).lectures
