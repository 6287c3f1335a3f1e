use Rattle.std.proofs.Common.{◌≡◌, ◌++◌, take}
use Rattle.std.specs.List.{filter_map}
use Rattle.ctt_problem.specs.Marks.{is_marked}
use Rattle.ctt_findings.specs.Findings.{conflict_finding}
use Rattle.ctt_findings.proofs.conflicts.push_between.Given as goal

abbrev pub invariant-loop-lecture : goal.invariant-loop-lecture
invariant-loop-lecture l = l.found.items ≡ l.initial.found.items ++ filter_map (conflict_finding l.instance l.course (is_marked l.slots)) (take l.lecture-index l.row)
