use Rattle.ctt_problem.proofs.MarkLemmas.{AddedBelow}
use Rattle.ctt_problem.proofs.marks.Marks.add.Given as goal

abbrev pub invariant-loop-place : goal.invariant-loop-place
invariant-loop-place l = AddedBelow l.initial.self-inside.words l.other-inside.words l.self-inside.words l.place
