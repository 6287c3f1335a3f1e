use Rattle.ctt_draft.proofs.UndoLemmas as Lemmas
use Rattle.ctt_draft.proofs.draft_laws.undo_puts_back.Goals as goal

pub returns : goal.returns
returns c = Lemmas.undo_puts_back
