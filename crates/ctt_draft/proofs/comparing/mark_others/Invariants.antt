use Rattle.std.proofs.Common.{◌≡◌, ◌||◌, ℕ, take}
use Rattle.ctt_problem.specs.Marks.{is_marked}
use Rattle.ctt_draft.specs.Comparisons.{has_other_in_course, has_other_in_slot}
use Rattle.ctt_draft.proofs.comparing.mark_others.Given as goal

abbrev pub invariant-loop-cell : goal.invariant-loop-cell
invariant-loop-cell g l = record {
  courses : (n : ℕ) → is_marked l.courses n ≡ (is_marked l.fn.courses n || has_other_in_course n (g.R.Rooms.list l.sheet) (take l.cell-index l.cells));
  slots : (n : ℕ) → is_marked l.slots n ≡ (is_marked l.fn.slots n || has_other_in_slot n (g.R.Rooms.list l.sheet) (take l.cell-index l.cells));
}
