use Rattle.ctt_edits.proofs.ReplyLemmas as Lemmas
use Rattle.ctt_edits.proofs.edit_laws.replies_fit.Goals as goal

pub returns : goal.returns
returns c = Lemmas.replies_fit
