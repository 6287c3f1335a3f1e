use Rattle.std.proofs.Common.{take}
use Rattle.std.specs.Vec.{vec_capacity}
use Rattle.ctt_core.proofs.RanLemmas.{Ran}
use Rattle.ctt_core.proofs.desk.Desk.run.Given as goal

abbrev pub invariant-loop-event : goal.invariant-loop-event
invariant-loop-event g l = Ran l.initial.self l.self l.events (take l.event-index l.events) l.answers.items (vec_capacity l.answers)
