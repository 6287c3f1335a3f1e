use Rattle.ctt_edits.proofs.OpeningLemmas as Lemmas
use Rattle.ctt_edits.proofs.edit_laws.opening_is_lawful.Goals as goal

pub returns : goal.returns
returns c = Lemmas.opening_is_lawful
