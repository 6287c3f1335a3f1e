use Rattle.ctt_text.proofs.BlockedLaws.{blocked_breaks_once}
use Rattle.ctt_text.proofs.text_laws.blocked_breaks_once.Goals as goal

pub returns : goal.returns
returns c = blocked_breaks_once
