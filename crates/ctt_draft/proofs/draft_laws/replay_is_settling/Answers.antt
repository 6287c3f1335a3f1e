use Rattle.ctt_draft.proofs.ReplayLemmas as Lemmas
use Rattle.ctt_draft.proofs.draft_laws.replay_is_settling.Goals as goal

pub returns : goal.returns
returns c = Lemmas.replay_is_settling
