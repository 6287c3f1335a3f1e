use Rattle.ctt_grid.proofs.CostLemmas as Lemmas
use Rattle.ctt_grid.proofs.bound_laws.penalty_fits.Goals as goal

pub returns : goal.returns
returns c = Lemmas.penalty_fits
