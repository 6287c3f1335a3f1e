use Rattle.std.proofs.Common.{◌≡◌, take}
use Rattle.std.specs.List.{filter}
use Rattle.ctt_views.specs.Week.{is_selected}
use Rattle.ctt_views.proofs.selection.select.Given as goal

abbrev pub invariant-loop-lecture : goal.invariant-loop-lecture
invariant-loop-lecture l = l.list.items ≡ filter (is_selected l.instance l.selection) (take l.lecture-index l.timetable)
