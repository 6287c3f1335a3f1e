use Rattle.ctt_text.proofs.BarredLaws.{reads_barred}
use Rattle.ctt_text.proofs.text_laws.reads_barred.Goals as goal

pub returns : goal.returns
returns c = reads_barred
