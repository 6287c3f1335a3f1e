use Rattle.std.proofs.Common.{◌≡◌, ◌++◌}
use Rattle.ctt_findings.specs.Findings.{compactness_of, for_each}
use Rattle.ctt_findings.proofs.compactness.push_compactness.Given as goal

abbrev pub invariant-loop-number : goal.invariant-loop-number
invariant-loop-number l = l.found.items ≡ l.initial.found.items ++ for_each (compactness_of l.instance l.timetable) l.number
