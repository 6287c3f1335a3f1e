use Rattle.ctt_core.proofs.RunLemmas as Lemmas
use Rattle.ctt_core.proofs.desk_laws.status_foretells.Goals as goal

pub returns : goal.returns
returns c = Lemmas.status_foretells
