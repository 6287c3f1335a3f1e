use Rattle.std.proofs.Common.{◌≡◌, drop}
use Rattle.ctt_board.specs.Changes.{holder_by}
use Rattle.ctt_board.proofs.after.last_holder.Given as goal

abbrev pub invariant-loop-cell : goal.invariant-loop-cell
invariant-loop-cell l = holder_by (drop l.cell-index l.cells) l.slot l.room l.last ≡ holder_by l.cells l.slot l.room l.fn.holder
