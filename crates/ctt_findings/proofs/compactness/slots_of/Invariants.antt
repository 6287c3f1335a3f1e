use Rattle.std.proofs.Common.{◌≡◌, ℕ, take}
use Rattle.std.specs.List.{list_any}
use Rattle.ctt_problem.specs.Marks.{is_marked}
use Rattle.ctt_problem.specs.Timetable.{course_row}
use Rattle.ctt_rules.specs.Neighbours.{busy}
use Rattle.ctt_findings.proofs.compactness.slots_of.Given as goal

abbrev pub invariant-loop-course : goal.invariant-loop-course
invariant-loop-course l = (s : ℕ) → is_marked l.slots s ≡ list_any (λ m. busy (course_row m l.rows) s) (take l.course-index l.course-items)
