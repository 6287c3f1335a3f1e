use Rattle.std.proofs.Common.{◌∙◌}
use Rattle.ctt_edits.specs.contracts.priced_edit.PricedEditPartialEq.TheImpl.{eq-value}
use Rattle.ctt_edits.proofs.SameEdits.{same_priced, priced_itself}
use Rattle.ctt_edits.proofs.SameLemmas.{same_by}
use Rattle.ctt_edits.proofs.priced_edit.PricedEdits.is_same.Goals as goal

pub returns : goal.returns
returns c = same_by eq-value.it same_priced priced_itself c.eq.result c.as_slice.result.now c.as_slice-2.result.now c.args.self.now c.args.other.now c.eq.ensures (c.as_slice.ensures.value ∙ c.self.view_is) (c.as_slice-2.ensures.value ∙ c.other.view_is)
