use Rattle.std.proofs.Common.{arith}
use Rattle.ctt_rules.proofs.WindowLemmas.{bit_set_in}
use Rattle.ctt_rules.proofs.compactness.Words.set.Goals as goal

pub returns-then-number-first-lt64 : goal.returns-then-number-first-lt64
returns-then-number-first-lt64 c = λ k place lt. rw (c.get.ensures, ← c.self.view_is) (bit_set_in c.self.inside.words c.args.course c.args.number c.args.first (omega arith) (omega arith) (omega arith) k place)
