use Rattle.ctt_views.proofs.EscapeLemmas.{names_have_none}
use Rattle.ctt_views.proofs.page_laws.names_hold_no_tag.Goals as goal

pub returns : goal.returns
returns c name = names_have_none name
