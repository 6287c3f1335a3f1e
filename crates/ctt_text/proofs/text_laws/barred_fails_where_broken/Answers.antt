use Rattle.ctt_text.proofs.BarredLaws.{barred_fails_where_broken}
use Rattle.ctt_text.proofs.text_laws.barred_fails_where_broken.Goals as goal

pub returns : goal.returns
returns c = barred_fails_where_broken
