use Rattle.ctt_problem.proofs.MarkLemmas.{none_marked}
use Rattle.std.proofs.Common.{refl}
use Rattle.ctt_problem.proofs.marks.Marks.new.Goals as goal

pub invariant_of-result : goal.invariant_of-result
invariant_of-result c = record { size = refl; within = λ n large. none_marked 32 n }

pub returns : goal.returns
returns c = λ n. none_marked 32 n
