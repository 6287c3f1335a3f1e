use Rattle.ctt_text.proofs.InstanceLaws.{fails_where_broken}
use Rattle.ctt_text.proofs.text_laws.fails_where_broken.Goals as goal

pub returns : goal.returns
returns c = fails_where_broken
