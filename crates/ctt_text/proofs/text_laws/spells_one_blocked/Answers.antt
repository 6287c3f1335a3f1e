use Rattle.ctt_text.proofs.BlockedLaws.{spells_one_blocked}
use Rattle.ctt_text.proofs.text_laws.spells_one_blocked.Goals as goal

pub returns : goal.returns
returns c = spells_one_blocked
