use Rattle.std.proofs.Common.{◌≡◌, drop}
use Rattle.std.specs.List.{find}
use Rattle.ctt_problem.specs.Lists.{has}
use Rattle.ctt_problem.specs.Problem.{members}
use Rattle.ctt_findings.proofs.conflicts.common_curriculum.Given as goal

abbrev pub invariant-loop-curriculum : goal.invariant-loop-curriculum
invariant-loop-curriculum l = find (λ q. has l.other (members l.instance q)) (drop l.curriculum-index l.curriculum-items) ≡ find (λ q. has l.other (members l.instance q)) l.curriculum-items
