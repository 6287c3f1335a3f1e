use Rattle.std.proofs.Common.{◌+◌, drop, ◌∙◌, sym, subst}
use Rattle.ctt_rules.specs.Hard.{Lawful}
use Rattle.ctt_board.specs.Changes.{apply, apply_at, CellsFit}
use Rattle.ctt_grid.proofs.WayLemmas.{ready, fits_more}
use Rattle.ctt_grid.proofs.CellLemmas.{made_more, turn_more}
use Rattle.ctt_grid.proofs.grid_sheet.GridSheetTimetable.apply.Goals as goal

pub make-requires-clause-course : goal.make-requires-clause-course
make-requires-clause-course c =
    (ready c.loop-cell.self.problem c.cells-cells.result.now c.loop-cell.cell-index c.cell-item.result c.loop-cell.self.list c.loop-cell-test.true c.cell-item.is c.loop-cell.invariant.lawful c.loop-cell.invariant.turn c.loop-cell.invariant.fits c.loop-cell.invariant.after).course

pub make-requires-clause-slot : goal.make-requires-clause-slot
make-requires-clause-slot c =
    (ready c.loop-cell.self.problem c.cells-cells.result.now c.loop-cell.cell-index c.cell-item.result c.loop-cell.self.list c.loop-cell-test.true c.cell-item.is c.loop-cell.invariant.lawful c.loop-cell.invariant.turn c.loop-cell.invariant.fits c.loop-cell.invariant.after).slot

pub make-requires-clause-lawful : goal.make-requires-clause-lawful
make-requires-clause-lawful c =
    (ready c.loop-cell.self.problem c.cells-cells.result.now c.loop-cell.cell-index c.cell-item.result c.loop-cell.self.list c.loop-cell-test.true c.cell-item.is c.loop-cell.invariant.lawful c.loop-cell.invariant.turn c.loop-cell.invariant.fits c.loop-cell.invariant.after).lawful

pub loop-cell-preserved : goal.loop-cell-preserved
loop-cell-preserved c =
    let cells = c.cells-cells.result.now in
    let k = c.loop-cell.cell-index in
    let x = c.cell-item.result in
    let t = c.loop-cell.self.list in
    let i = c.loop-cell.self.problem in
    let was = c.loop-cell.invariant in
    let next = made_more cells k x t (apply cells c.args.self.now.list) c.loop-cell-test.true c.cell-item.is was.same in
    let step = ready i cells k x t c.loop-cell-test.true c.cell-item.is was.lawful was.turn was.fits was.after in
    let more : CellsFit (drop (k + 1) cells) (apply_at x.course x.slot x.room t) = fits_more cells k x t c.loop-cell-test.true c.cell-item.is was.fits in
    let after : Lawful i (apply (drop (k + 1) cells) (apply_at x.course x.slot x.room t)) = subst (Lawful i) (was.same ∙ sym next) was.after in
    rw (c.make.ensures.problem, c.make.ensures.list) (record {
      problem = was.problem;
      same = next;
      turn = turn_more cells k x c.loop-cell-test.true c.cell-item.is was.turn;
      fits = more;
      lawful = step.lawful;
      after = after;
    })
