use Rattle.ctt_draft.proofs.ReplayLemmas as Lemmas
use Rattle.ctt_draft.proofs.draft_laws.draft_replays.Goals as goal

pub returns : goal.returns
returns c = Lemmas.draft_replays
