use Rattle.std.proofs.Common.{◌≡◌, ℕ, drop}
use Rattle.ctt_problem.specs.Marks.{is_marked}
use Rattle.ctt_board.specs.Changes.{stands_by}
use Rattle.ctt_board.proofs.standing.change_standing.Given as goal

abbrev pub invariant-loop-cell : goal.invariant-loop-cell
invariant-loop-cell l = (c : ℕ) → stands_by (drop l.cell-index l.cells) c l.slot (is_marked l.standing c) ≡ stands_by l.cells c l.slot (is_marked l.fn.standing c)
