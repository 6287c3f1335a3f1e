use Rattle.ctt_core.proofs.RunLemmas as Lemmas
use Rattle.ctt_core.proofs.desk_laws.onto_joins.Goals as goal

pub returns : goal.returns
returns c = Lemmas.onto_joins
