use Rattle.ctt_search.proofs.BetweenLemmas as Lemmas
use Rattle.ctt_search.proofs.search_laws.edits_lead.Goals as goal

pub returns : goal.returns
returns c = Lemmas.edits_lead
