use Rattle.std.proofs.Common.{◌≡◌, ◌≤◌, true, false, drop}
use Rattle.std.specs.Vec.{vec_capacity}
use Rattle.ctt_board.specs.Changes.{apply, in_turn}
use Rattle.ctt_grid.proofs.list_sheet.make.Given as goal

abbrev pub invariant-loop-cell : goal.invariant-loop-cell
invariant-loop-cell l = record {
  same : apply (drop l.cell-index l.cells) l.lectures.items ≡ apply l.cells l.fn.lectures.items;
  turn : in_turn false (drop l.cell-index l.cells) ≡ true;
  room : vec_capacity l.fn.lectures ≤ vec_capacity l.lectures;
}
