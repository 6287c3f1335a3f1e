use Rattle.std.proofs.Common.{◌≡◌, false, take}
use Rattle.std.specs.List.{list_any}
use Rattle.ctt_views.specs.Grids.{is_of}
use Rattle.ctt_views.proofs.signs.has_any_of.Given as goal

abbrev pub invariant-loop-lecture : goal.invariant-loop-lecture
invariant-loop-lecture l = list_any (is_of l.instance l.grid) (take l.lecture-index l.row) ≡ false
