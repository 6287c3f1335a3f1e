use Rattle.ctt_edits.proofs.OfferLaws as Lemmas
use Rattle.ctt_edits.proofs.edit_laws.slots_offer.Goals as goal

pub returns : goal.returns
returns c = Lemmas.slots_offer
