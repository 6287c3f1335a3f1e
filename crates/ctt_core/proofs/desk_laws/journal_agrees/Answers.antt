use Rattle.ctt_core.proofs.JournalLemmas as Lemmas
use Rattle.ctt_core.proofs.desk_laws.journal_agrees.Goals as goal

pub returns : goal.returns
returns c = Lemmas.journal_agrees
