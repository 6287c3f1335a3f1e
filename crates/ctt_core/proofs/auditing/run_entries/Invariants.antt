use Rattle.ctt_core.proofs.AuditLemmas.{Hearing}
use Rattle.ctt_core.proofs.auditing.run_entries.Given as goal

abbrev pub invariant-loop-at : goal.invariant-loop-at
invariant-loop-at g l = Hearing (g.S.Rooms.problem l.initial.sheet) (g.S.Rooms.problem l.sheet) (g.S.Rooms.list l.initial.sheet) (g.S.Rooms.list l.sheet) l.entries l.at
