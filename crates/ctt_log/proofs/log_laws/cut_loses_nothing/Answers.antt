use Rattle.ctt_log.proofs.TornLemmas as Lemmas
use Rattle.ctt_log.proofs.log_laws.cut_loses_nothing.Goals as goal

pub returns : goal.returns
returns c = Lemmas.cut_loses_nothing
