use Rattle.std.proofs.Common.{◌≡◌, ℕ, take}
use Rattle.ctt_problem.specs.Marks.{is_marked}
use Rattle.ctt_problem.specs.Timetable.{has_lecture}
use Rattle.ctt_grid.proofs.courses_in_slot.courses_in_slot.Given as goal

abbrev pub invariant-loop-lecture : goal.invariant-loop-lecture
invariant-loop-lecture l = (c : ℕ) → is_marked l.marks c ≡ has_lecture c l.slot (take l.lecture-index l.lectures)
