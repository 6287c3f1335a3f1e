use Rattle.std.proofs.Common.{◌≡◌, ℕ, ◌<◌, false, get_or}
use Rattle.ctt_problem.specs.Timetable.{before}
use Rattle.ctt_problem.specs.declared.placed.Placed.{Placed}
use Rattle.ctt_grid.proofs.list_sheet.place_of.Given as goal

abbrev pub invariant-loop-place : goal.invariant-loop-place
invariant-loop-place l = (k : ℕ) (d : Placed) → k < l.place → before l.lecture (get_or l.lectures k d) ≡ false
