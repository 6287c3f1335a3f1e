use Rattle.ctt_rules.proofs.TimetableLemmas as Lemmas
use Rattle.ctt_grid.proofs.bound_laws.length_is_bounded.Goals as goal

pub returns : goal.returns
returns c = λ i t h. Lemmas.length_is_bounded i t h
