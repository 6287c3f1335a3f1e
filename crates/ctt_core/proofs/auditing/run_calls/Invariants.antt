use Rattle.ctt_core.proofs.AuditLemmas.{Running}
use Rattle.ctt_core.proofs.auditing.run_calls.Given as goal

abbrev pub invariant-loop-at : goal.invariant-loop-at
invariant-loop-at g l = Running (g.S.Rooms.problem l.initial.sheet) (g.S.Rooms.problem l.sheet) (g.S.Rooms.list l.initial.sheet) (g.S.Rooms.list l.sheet) l.asked l.at
