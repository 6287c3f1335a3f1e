use Rattle.ctt_core.proofs.RunLemmas as Lemmas
use Rattle.ctt_core.proofs.desk_laws.histories_join.Goals as goal

pub returns : goal.returns
returns c = record { after = Lemmas.after_joins; legal = Lemmas.legal_joins }
