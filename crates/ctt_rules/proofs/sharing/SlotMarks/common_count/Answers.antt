use Rattle.ctt_rules.proofs.ConflictLemmas.{few_marked}
use Rattle.ctt_rules.proofs.sharing.SlotMarks.common_count.Goals as goal

pub returns-clause-few : goal.returns-clause-few
returns-clause-few c = rw c.common_count.ensures (few_marked _)
