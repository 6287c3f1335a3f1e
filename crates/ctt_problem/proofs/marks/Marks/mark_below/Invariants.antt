use Rattle.ctt_problem.proofs.MarkLemmas.{FilledBelow}
use Rattle.ctt_problem.proofs.marks.Marks.mark_below.Given as goal

abbrev pub invariant-loop-place : goal.invariant-loop-place
invariant-loop-place l = FilledBelow l.initial.self-inside.words l.self-inside.words l.place
