use Rattle.ctt_text.proofs.InstanceLaws.{spells_one}
use Rattle.ctt_text.proofs.text_laws.spells_one.Goals as goal

pub returns : goal.returns
returns c = spells_one
