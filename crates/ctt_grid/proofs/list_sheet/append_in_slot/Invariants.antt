use Rattle.std.proofs.Common.{◌≡◌, ◌++◌, drop}
use Rattle.ctt_problem.specs.Timetable.{slot_row}
use Rattle.ctt_grid.proofs.list_sheet.append_in_slot.Given as goal

abbrev pub invariant-loop-lecture : goal.invariant-loop-lecture
invariant-loop-lecture l = l.list.items ++ slot_row l.slot (drop l.lecture-index l.lectures) ≡ l.initial.list.items ++ slot_row l.slot l.lectures
