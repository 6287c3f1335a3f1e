use Rattle.ctt_crew.proofs.SeenLemmas.{commits_stay}
use Rattle.ctt_crew.proofs.seen_laws.commits_stay.Goals as goal

pub returns : goal.returns
returns c = commits_stay
