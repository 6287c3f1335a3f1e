use Rattle.std.proofs.Common.{◌≡◌, true, take}
use Rattle.ctt_board.specs.Fitting.{fits}
use Rattle.ctt_grid.proofs.fitting.fits.Given as goal

abbrev pub invariant-loop-number : goal.invariant-loop-number
invariant-loop-number g l = fits l.instance (take l.number l.cells) (g.R.Rooms.list l.rooms) ≡ true
