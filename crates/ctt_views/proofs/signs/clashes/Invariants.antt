use Rattle.std.proofs.Common.{◌≡◌, false, take}
use Rattle.ctt_views.specs.Signs.{clashes}
use Rattle.ctt_views.proofs.signs.clashes.Given as goal

abbrev pub invariant-loop-other : goal.invariant-loop-other
invariant-loop-other l = clashes l.instance (take l.other-index l.row) l.lecture ≡ false
