use Rattle.ctt_edits.proofs.OpeningLemmas as Lemmas
use Rattle.ctt_edits.proofs.edit_laws.rooms_determine.Goals as goal

pub returns : goal.returns
returns c = Lemmas.rooms_determine
