use Rattle.std.proofs.Common.{◌∙◌, ap}
use Rattle.ctt_board.specs.Changes.{room_by}
use Rattle.ctt_draft.proofs.UndoingLemmas.{left_at, one_change}
use Rattle.ctt_draft.proofs.draft.undoing.room_after_all.Goals as goal

pub loop-change-preserved : goal.loop-change-preserved
loop-change-preserved c =
    one_change c.args.changes.now c.loop-change.change-index c.change-item.result c.args.course c.args.slot c.loop-change.last c.room_after-last.result _
    (left_at c.args.changes.now c.loop-change.change-index c.change-item.result c.loop-change-test.true c.change-item.is)
    (c.room_after-last.ensures ∙ ap (λ cells. room_by cells c.args.course c.args.slot c.loop-change.last) c.cells.ensures.value) c.loop-change.invariant
