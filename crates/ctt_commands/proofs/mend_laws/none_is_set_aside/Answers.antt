use Rattle.ctt_commands.proofs.MendLemmas as Lemmas
use Rattle.ctt_commands.proofs.mend_laws.none_is_set_aside.Goals as goal

pub returns : goal.returns
returns c = Lemmas.none_is_set_aside
