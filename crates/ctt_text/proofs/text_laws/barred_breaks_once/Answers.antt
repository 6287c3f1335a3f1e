use Rattle.ctt_text.proofs.BarredLaws.{barred_breaks_once}
use Rattle.ctt_text.proofs.text_laws.barred_breaks_once.Goals as goal

pub returns : goal.returns
returns c = barred_breaks_once
