use Rattle.std.proofs.Common.{◌<◌, ℕ}
use Rattle.ctt_search.specs.Wishes.{KeepsPin}
use Rattle.ctt_search.proofs.keeping.keeps_pins_of.Given as goal

abbrev pub invariant-loop-number : goal.invariant-loop-number
invariant-loop-number g l = (s : ℕ) → s < l.number → KeepsPin l.pins (g.S.Rooms.list l.start) (g.S.Rooms.list l.sheet) l.course s
