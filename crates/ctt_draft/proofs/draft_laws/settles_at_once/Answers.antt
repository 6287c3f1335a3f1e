use Rattle.ctt_draft.proofs.FrameLemmas as Lemmas
use Rattle.ctt_draft.proofs.draft_laws.settles_at_once.Goals as goal

pub returns : goal.returns
returns c = Lemmas.settles_at_once
