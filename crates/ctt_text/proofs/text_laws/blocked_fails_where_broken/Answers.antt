use Rattle.ctt_text.proofs.BlockedLaws.{blocked_fails_where_broken}
use Rattle.ctt_text.proofs.text_laws.blocked_fails_where_broken.Goals as goal

pub returns : goal.returns
returns c = blocked_fails_where_broken
