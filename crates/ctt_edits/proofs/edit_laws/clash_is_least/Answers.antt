use Rattle.ctt_edits.proofs.LeastLemmas as Lemmas
use Rattle.ctt_edits.proofs.edit_laws.clash_is_least.Goals as goal

pub returns : goal.returns
returns c = Lemmas.clash_is_least
