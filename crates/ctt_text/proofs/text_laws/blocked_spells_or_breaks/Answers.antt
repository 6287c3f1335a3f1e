use Rattle.ctt_text.proofs.BlockedLaws.{blocked_spells_or_breaks}
use Rattle.ctt_text.proofs.text_laws.blocked_spells_or_breaks.Goals as goal

pub returns : goal.returns
returns c = blocked_spells_or_breaks
