use Rattle.ctt_board.proofs.FitLemmas.{fits_as_tested as law}
use Rattle.ctt_board.proofs.change_laws.fits_as_tested.Goals as goal

pub returns : goal.returns
returns c = law
