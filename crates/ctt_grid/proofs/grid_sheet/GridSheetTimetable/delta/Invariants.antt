use Rattle.std.proofs.Common.{◌≡◌, take, pos, ◌-ℤ◌}
use Rattle.ctt_rules.specs.Penalty.{penalty, total}
use Rattle.ctt_board.specs.Changes.{apply}
use Rattle.ctt_grid.specs.Seen.{Sees, HasPlaces}
use Rattle.ctt_grid.proofs.grid_sheet.GridSheetTimetable.delta.Given as goal

abbrev pub invariant-loop-number : goal.invariant-loop-number
invariant-loop-number l = record {
  sees : Sees l.self-inside.instance.now l.counts (apply (take l.number l.cells) l.self.list);
  room : HasPlaces l.counts l.number;
  so_far : l.total ≡ pos (total (penalty l.self-inside.instance.now (apply (take l.number l.cells) l.self.list))) -ℤ pos (total (penalty l.self-inside.instance.now l.self.list));
}
