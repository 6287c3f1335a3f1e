use Rattle.std.proofs.Common.{◌≡◌, ◌++◌}
use Rattle.ctt_findings.specs.Findings.{conflicts_of, for_each}
use Rattle.ctt_findings.proofs.conflicts.push_all_conflicts.Given as goal

abbrev pub invariant-loop-number : goal.invariant-loop-number
invariant-loop-number l = l.found.items ≡ l.initial.found.items ++ for_each (conflicts_of l.instance l.timetable) l.number
