use Rattle.ctt_edits.proofs.OfferLaws as Lemmas
use Rattle.ctt_edits.proofs.edit_laws.slot_fault_stands.Goals as goal

pub returns : goal.returns
returns c = Lemmas.slot_fault_stands
