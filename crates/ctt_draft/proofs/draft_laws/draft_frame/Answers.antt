use Rattle.ctt_draft.proofs.FrameLemmas as Lemmas
use Rattle.ctt_draft.proofs.draft_laws.draft_frame.Goals as goal

pub returns : goal.returns
returns c = Lemmas.draft_frame
