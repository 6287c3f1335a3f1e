use Rattle.std.proofs.Common.{◌<◌, subst, sym}
use Rattle.ctt_problem.proofs.TimetableLemmas.{Each-at}
use Rattle.ctt_board.specs.declared.cell.Cell.{Cell}
use Rattle.ctt_draft.proofs.undo.note_all.Goals as goal

module _ (g : _) (c : goal.After-note-arg-in-loop-cell-1 g) where
  within : (c.cell-item.result.course < c.loop-cell.marks.width) × (c.cell-item.result.slot < c.loop-cell.marks.rows)
  within = subst (λ (x : Cell). (x.course < c.loop-cell.marks.width) × (x.slot < c.loop-cell.marks.rows)) (sym c.cell-item.is) (rw (c.loop-cell.invariant.courses, c.loop-cell.invariant.slots) (Each-at (λ (x : Cell). (x.course < c.args.marks.now.width) × (x.slot < c.args.marks.now.rows)) c.args.cells.now c.requires.within c.loop-cell.cell-index c.cell-item.result c.loop-cell-test.true))

pub note-requires-clause-course : goal.note-requires-clause-course
note-requires-clause-course g c = (within g c).0

pub note-requires-clause-slot : goal.note-requires-clause-slot
note-requires-clause-slot g c = (within g c).1
