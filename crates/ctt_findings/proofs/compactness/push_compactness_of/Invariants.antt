use Rattle.std.proofs.Common.{◌≡◌, ◌++◌, ◌≤◌, ◌-◌}
use Rattle.ctt_problem.specs.Lists.{has}
use Rattle.ctt_problem.specs.Problem.{course_count, members}
use Rattle.ctt_findings.specs.Findings.{alone_of, for_each, where_passes}
use Rattle.ctt_findings.proofs.compactness.push_compactness_of.Given as goal

abbrev pub invariant-loop-number : goal.invariant-loop-number
invariant-loop-number l = record {
  within : l.from ≤ course_count l.instance;
  found : l.found.items ≡ l.initial.found.items
      ++ for_each (where_passes (λ c. has c (members l.instance l.curriculum)) (alone_of l.instance l.rows l.curriculum)) l.from;
}

abbrev pub decreases-loop-number : goal.decreases-loop-number
decreases-loop-number l = course_count l.instance - l.from
