use Rattle.ctt_core.proofs.DeskLemmas as Lemmas
use Rattle.ctt_core.proofs.desk_laws.desk_follows_reference.Goals as goal

pub returns : goal.returns
returns c = Lemmas.desk_follows_reference
