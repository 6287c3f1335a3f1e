use Rattle.ctt_edits.proofs.PriceOrder.{prices_ascend}
use Rattle.ctt_edits.proofs.edit_laws.prices_ascend.Goals as goal

pub returns : goal.returns
returns c = prices_ascend
