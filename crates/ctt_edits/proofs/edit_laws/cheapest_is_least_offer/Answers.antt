use Rattle.ctt_edits.proofs.OfferLaws as Lemmas
use Rattle.ctt_edits.proofs.edit_laws.cheapest_is_least_offer.Goals as goal

pub returns : goal.returns
returns c = Lemmas.cheapest_is_least_offer
