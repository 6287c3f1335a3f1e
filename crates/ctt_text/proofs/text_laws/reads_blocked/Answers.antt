use Rattle.ctt_text.proofs.BlockedLaws.{reads_blocked}
use Rattle.ctt_text.proofs.text_laws.reads_blocked.Goals as goal

pub returns : goal.returns
returns c = reads_blocked
