use Rattle.ctt_text.proofs.NamedLaws.{spelled_is_named}
use Rattle.ctt_text.proofs.text_laws.spelled_is_named.Goals as goal

pub returns : goal.returns
returns c = spelled_is_named
