use Rattle.ctt_edits.proofs.OpeningLemmas as Lemmas
use Rattle.ctt_edits.proofs.edit_laws.opening_faults_fit.Goals as goal

pub returns : goal.returns
returns c = Lemmas.opening_faults_fit
