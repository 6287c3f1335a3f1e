use Rattle.ctt_views.proofs.StandingLemmas.{lectures_stand_once}
use Rattle.ctt_views.proofs.page_laws.lectures_stand_once.Goals as goal

pub returns : goal.returns
returns c i t h g s lt = lectures_stand_once i t h g s lt
