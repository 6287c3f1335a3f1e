use Rattle.std.proofs.Common.{drop}
use Rattle.ctt_grid.proofs.SettleLemmas.{Settling}
use Rattle.ctt_grid.proofs.grid_sheet.GridSheetTimetable.apply_all.Given as goal

abbrev pub invariant-loop-change : goal.invariant-loop-change
invariant-loop-change l = Settling l.fn.self.problem l.self.problem l.fn.self.list l.self.list l.changes (drop l.change-index l.changes)
