use Rattle.ctt_text.proofs.BarredLaws.{spells_one_barred}
use Rattle.ctt_text.proofs.text_laws.spells_one_barred.Goals as goal

pub returns : goal.returns
returns c = spells_one_barred
