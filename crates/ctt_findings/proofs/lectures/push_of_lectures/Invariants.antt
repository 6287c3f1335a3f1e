use Rattle.std.proofs.Common.{◌≡◌, ◌++◌, take}
use Rattle.std.specs.List.{filter_map}
use Rattle.ctt_findings.proofs.lectures.push_of_lectures.Given as goal

abbrev pub invariant-loop-lecture : goal.invariant-loop-lecture
invariant-loop-lecture g l = l.found.items ≡ l.initial.found.items ++ filter_map (g.K.OfLecture.finding l.instance) (take l.lecture-index l.timetable)
