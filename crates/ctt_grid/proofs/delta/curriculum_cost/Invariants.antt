use Rattle.std.proofs.Common.{◌≡◌, ℕ, take, count_by, sum_by, not}
use Rattle.std.specs.List.{list_any}
use Rattle.ctt_problem.specs.Marks.{is_marked}
use Rattle.ctt_problem.specs.Timetable.{course_row}
use Rattle.ctt_rules.specs.Neighbours.{busy, is_beside}
use Rattle.ctt_grid.proofs.delta.curriculum_cost.Given as goal

abbrev pub invariant-loop-member : goal.invariant-loop-member
invariant-loop-member g l = (s : ℕ) → is_marked l.slots s ≡ list_any (λ m. busy (course_row m l.after.list) s) (take l.member-index l.members)

abbrev pub invariant-loop-member-2 : goal.invariant-loop-member-2
invariant-loop-member-2 g l = l.count ≡ sum_by (λ m. count_by (λ x. not (is_beside l.after.problem (is_marked l.slots) x.slot)) (course_row m l.after.list)) (take l.member-index l.members)
