use Rattle.ctt_edits.proofs.CallLemmas as Lemmas
use Rattle.ctt_edits.proofs.edit_laws.call_frame.Goals as goal

pub returns : goal.returns
returns c = Lemmas.call_frame
