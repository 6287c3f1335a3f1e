use Rattle.ctt_office.proofs.RedoLemmas as Lemmas
use Rattle.ctt_office.proofs.redo_laws.redo_is_asking.Goals as goal

pub returns : goal.returns
returns c = Lemmas.redo_is_asking
