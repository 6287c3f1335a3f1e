use Rattle.ctt_problem.proofs.MarkLemmas.{all_alike}
use Rattle.ctt_rules.proofs.compactness.Words.new.Goals as goal

pub returns : goal.returns
returns c = λ n. all_alike 0 2000 n
