use Rattle.ctt_edits.proofs.OfferLaws as Lemmas
use Rattle.ctt_edits.proofs.edit_laws.slot_price_is_least.Goals as goal

pub returns : goal.returns
returns c = Lemmas.slot_price_is_least
