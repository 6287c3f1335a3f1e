use Rattle.std.proofs.Common.{arith}
use Rattle.ctt_rules.proofs.BitLemmas.{free_of_neighbours}
use Rattle.ctt_rules.proofs.compactness.alone.Goals as goal

pub returns : goal.returns
returns c = λ place. free_of_neighbours c.args.busy (omega arith) place
