use Rattle.ctt_text.proofs.InstanceLaws.{spells_or_breaks}
use Rattle.ctt_text.proofs.text_laws.spells_or_breaks.Goals as goal

pub returns : goal.returns
returns c = spells_or_breaks
