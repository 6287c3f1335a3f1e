use Rattle.std.proofs.Common.{◌≡◌, ◌++◌, ◌<◌, ◌≤◌, ◌-◌}
use Rattle.ctt_problem.specs.Problem.{course_count}
use Rattle.ctt_findings.specs.Findings.{conflicts_between, for_each, where_passes}
use Rattle.ctt_findings.proofs.ConflictLemmas.{behind}
use Rattle.ctt_findings.proofs.conflicts.push_conflicts_of.Given as goal

abbrev pub invariant-loop-number : goal.invariant-loop-number
invariant-loop-number l = record {
  past : l.course < l.from;
  within : l.from ≤ course_count l.instance;
  found : l.found.items ≡ l.initial.found.items ++ for_each (where_passes (behind l.instance l.course) (conflicts_between l.instance l.timetable l.course)) l.from;
}

abbrev pub decreases-loop-number : goal.decreases-loop-number
decreases-loop-number l = course_count l.instance - l.from
