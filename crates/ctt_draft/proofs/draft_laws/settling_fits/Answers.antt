use Rattle.ctt_draft.proofs.FrameLemmas as Lemmas
use Rattle.ctt_draft.proofs.draft_laws.settling_fits.Goals as goal

pub returns : goal.returns
returns c = Lemmas.settling_fits
