use Rattle.ctt_text.proofs.WrittenLaws.{written_spells}
use Rattle.ctt_text.proofs.text_laws.written_spells.Goals as goal

pub returns : goal.returns
returns c = written_spells
