use Rattle.std.proofs.Common.{◌≡◌, true, false, drop}
use Rattle.ctt_rules.specs.Hard.{Lawful}
use Rattle.ctt_board.specs.Changes.{in_turn, apply, CellsFit}
use Rattle.ctt_grid.proofs.grid_sheet.GridSheetTimetable.apply.Given as goal

abbrev pub invariant-loop-cell : goal.invariant-loop-cell
invariant-loop-cell l = record {
  problem : l.self.problem ≡ l.fn.self.problem;
  same : apply (drop l.cell-index l.cells) l.self.list ≡ apply l.cells l.fn.self.list;
  turn : in_turn false (drop l.cell-index l.cells) ≡ true;
  fits : CellsFit (drop l.cell-index l.cells) l.self.list;
  lawful : Lawful l.self.problem l.self.list;
  after : Lawful l.self.problem (apply (drop l.cell-index l.cells) l.self.list);
}
