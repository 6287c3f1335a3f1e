use Rattle.std.proofs.Common.{◌≡◌, ◌≤◌, take, count_by}
use Rattle.ctt_board.specs.Changes.{is_removed}
use Rattle.ctt_board.proofs.after.count_removed.Given as goal

abbrev pub invariant-loop-cell : goal.invariant-loop-cell
invariant-loop-cell l = record {
  so_far : l.count ≡ count_by (is_removed l.course) (take l.cell-index l.cells);
  few : l.count ≤ l.cell-index;
}
