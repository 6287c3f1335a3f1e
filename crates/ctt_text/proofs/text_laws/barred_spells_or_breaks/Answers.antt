use Rattle.ctt_text.proofs.BarredLaws.{barred_spells_or_breaks}
use Rattle.ctt_text.proofs.text_laws.barred_spells_or_breaks.Goals as goal

pub returns : goal.returns
returns c = barred_spells_or_breaks
