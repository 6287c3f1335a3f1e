use Rattle.ctt_edits.specs.contracts.offer.OfferPartialEq.TheImpl.{eq-value}
use Rattle.ctt_edits.proofs.SameEdits.{same_offer, offer_itself}
use Rattle.ctt_edits.proofs.SameLemmas.{same_by}
use Rattle.ctt_edits.proofs.offer.Offers.is_same.Goals as goal

pub returns : goal.returns
returns c = same_by eq-value.it same_offer offer_itself c.eq.result c.as_slice.result.now c.as_slice-2.result.now c.args.self.now c.args.other.now c.eq.ensures c.as_slice.ensures c.as_slice-2.ensures
