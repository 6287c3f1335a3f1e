use Rattle.ctt_core.proofs.OpeningLemmas.{Placing}
use Rattle.ctt_core.proofs.opening.place_all.Given as goal

abbrev pub invariant-loop-at : goal.invariant-loop-at
invariant-loop-at g l = Placing l.instance (g.S.Rooms.problem l.sheet) l.lectures (g.S.Rooms.list l.sheet) l.at
