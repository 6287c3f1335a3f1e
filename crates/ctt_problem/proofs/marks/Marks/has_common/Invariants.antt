use Rattle.ctt_problem.proofs.MarkLemmas.{Seen}
use Rattle.ctt_problem.proofs.marks.Marks.has_common.Given as goal

abbrev pub invariant-loop-place : goal.invariant-loop-place
invariant-loop-place l = Seen l.self-inside.words l.other-inside.words l.place l.common
