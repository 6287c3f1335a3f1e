use Rattle.ctt_edits.proofs.ReadLemmas as Lemmas
use Rattle.ctt_edits.proofs.edit_laws.reads_ascend.Goals as goal

pub returns : goal.returns
returns c = Lemmas.reads_ascend
