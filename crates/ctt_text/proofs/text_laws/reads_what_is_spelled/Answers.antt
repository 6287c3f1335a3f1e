use Rattle.ctt_text.proofs.InstanceLaws.{reads_what_is_spelled}
use Rattle.ctt_text.proofs.text_laws.reads_what_is_spelled.Goals as goal

pub returns : goal.returns
returns c = reads_what_is_spelled
