use Rattle.std.proofs.Common.{drop}
use Rattle.ctt_draft.proofs.ReplayLemmas.{Replaying}
use Rattle.ctt_draft.proofs.replaying.replay.Given as goal

abbrev pub invariant-loop-change : goal.invariant-loop-change
invariant-loop-change g l = Replaying (g.S.Rooms.problem l.initial.sheet) (g.S.Rooms.problem l.sheet) (g.S.Rooms.list l.initial.sheet) (g.S.Rooms.list l.sheet) l.changes (drop l.change-index l.changes)
