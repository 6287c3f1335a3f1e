use Rattle.std.proofs.Common.{◌≡◌, drop}
use Rattle.ctt_board.specs.Changes.{holder_at}
use Rattle.ctt_board.proofs.HolderLemmas.{found_in}
use Rattle.ctt_grid.proofs.list_sheet.holder_in.Given as goal

abbrev pub invariant-loop-lecture : goal.invariant-loop-lecture
invariant-loop-lecture l = found_in l.slot l.room (drop l.lecture-index l.lectures) ≡ holder_at l.slot l.room l.lectures
