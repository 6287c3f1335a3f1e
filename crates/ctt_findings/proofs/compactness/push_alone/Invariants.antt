use Rattle.std.proofs.Common.{◌≡◌, ◌++◌, not, take}
use Rattle.std.specs.List.{filter_map}
use Rattle.ctt_problem.specs.Marks.{is_marked}
use Rattle.ctt_rules.specs.Neighbours.{is_beside}
use Rattle.ctt_findings.specs.Findings.{compactness_finding}
use Rattle.ctt_findings.proofs.compactness.push_alone.Given as goal

abbrev pub invariant-loop-lecture : goal.invariant-loop-lecture
invariant-loop-lecture l = l.found.items ≡ l.initial.found.items ++ filter_map (λ x. compactness_finding l.curriculum (not (is_beside l.instance (is_marked l.slots) x.slot)) x) (take l.lecture-index l.row)
