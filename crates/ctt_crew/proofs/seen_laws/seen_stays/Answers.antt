use Rattle.ctt_crew.proofs.SeenLemmas.{seen_stays}
use Rattle.ctt_crew.proofs.seen_laws.seen_stays.Goals as goal

pub returns : goal.returns
returns c = seen_stays
