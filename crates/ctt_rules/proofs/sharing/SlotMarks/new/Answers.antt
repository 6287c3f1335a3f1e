use Rattle.ctt_rules.proofs.ConflictLemmas.{no_rows}
use Rattle.ctt_rules.proofs.sharing.SlotMarks.new.Goals as goal

pub returns : goal.returns
returns c = λ row n. no_rows c.new-none.result c.new-none.ensures 64 row n
