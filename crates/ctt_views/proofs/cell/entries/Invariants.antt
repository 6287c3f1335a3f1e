use Rattle.std.proofs.Common.{◌≡◌, take, string_bytes}
use Rattle.ctt_problem.specs.Timetable.{slot_row}
use Rattle.ctt_views.specs.Week.{entries}
use Rattle.ctt_views.proofs.cell.entries.Given as goal

abbrev pub invariant-loop-lecture : goal.invariant-loop-lecture
invariant-loop-lecture l = string_bytes l.cell ≡ entries l.instance (slot_row l.slot (take l.lecture-index l.lectures))
