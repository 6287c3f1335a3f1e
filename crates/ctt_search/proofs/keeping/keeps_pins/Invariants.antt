use Rattle.std.proofs.Common.{◌<◌, ℕ}
use Rattle.ctt_search.specs.Wishes.{KeepsPinsOf}
use Rattle.ctt_search.proofs.keeping.keeps_pins.Given as goal

abbrev pub invariant-loop-number : goal.invariant-loop-number
invariant-loop-number g l = (k : ℕ) → k < l.number → KeepsPinsOf (g.S.Rooms.problem l.sheet) l.pins (g.S.Rooms.list l.start) (g.S.Rooms.list l.sheet) k
