use Rattle.std.proofs.Common.{◌≡◌, drop}
use Rattle.ctt_board.specs.Changes.{room_by}
use Rattle.ctt_draft.proofs.draft.undoing.room_after.Given as goal

abbrev pub invariant-loop-cell : goal.invariant-loop-cell
invariant-loop-cell l = room_by (drop l.cell-index l.cells) l.course l.slot l.last ≡ room_by l.cells l.course l.slot l.fn.room
