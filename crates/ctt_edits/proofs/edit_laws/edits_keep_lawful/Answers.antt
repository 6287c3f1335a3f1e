use Rattle.ctt_edits.proofs.EditLemmas as Lemmas
use Rattle.ctt_edits.proofs.edit_laws.edits_keep_lawful.Goals as goal

pub returns : goal.returns
returns c = Lemmas.edits_keep_lawful
