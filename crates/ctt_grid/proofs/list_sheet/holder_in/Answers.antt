use Rattle.std.proofs.Common.{sym}
use Rattle.ctt_board.proofs.HolderLemmas.{holder_is}
use Rattle.ctt_grid.proofs.list_sheet.holder_in.Goals as goal

pub loop-lecture-init : goal.loop-lecture-init
loop-lecture-init c = sym (holder_is c.args.slot c.args.room c.args.lectures.now)
