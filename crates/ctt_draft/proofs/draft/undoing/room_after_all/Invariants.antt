use Rattle.std.proofs.Common.{◌≡◌, drop}
use Rattle.ctt_board.specs.Changes.{room_by}
use Rattle.ctt_draft.specs.Undo.{all_cells}
use Rattle.ctt_draft.proofs.draft.undoing.room_after_all.Given as goal

abbrev pub invariant-loop-change : goal.invariant-loop-change
invariant-loop-change l = room_by (all_cells (drop l.change-index l.changes)) l.course l.slot l.last ≡ room_by (all_cells l.changes) l.course l.slot l.fn.room
