use Rattle.std.proofs.Common.{arith, ne_eqb, rules}
use Rattle.ctt_views.proofs.EscapeLemmas.{and_is, apostrophe_is, less_is, more_is, other_is, quote_is}
use Rattle.ctt_views.proofs.escape.EscapedCharDisplay.fmt.Goals as goal

pub returns-in-38-clause-writes : goal.returns-in-38-clause-writes
returns-in-38-clause-writes g c = rw (c.in-38.is, and_is) (search rules)

pub returns-in-60-clause-writes : goal.returns-in-60-clause-writes
returns-in-60-clause-writes g c = rw (c.in-60.is, less_is) (search rules)

pub returns-in-62-clause-writes : goal.returns-in-62-clause-writes
returns-in-62-clause-writes g c = rw (c.in-62.is, more_is) (search rules)

pub returns-in-34-clause-writes : goal.returns-in-34-clause-writes
returns-in-34-clause-writes g c = rw (c.in-34.is, quote_is) (search rules)

pub returns-in-39-clause-writes : goal.returns-in-39-clause-writes
returns-in-39-clause-writes g c = rw (c.in-39.is, apostrophe_is) (search rules)

pub returns-in_default-clause-writes : goal.returns-in_default-clause-writes
returns-in_default-clause-writes g c =
    let x = c.args.self.now.0 in
    rw (other_is x (ne_eqb x 38 (omega arith)) (ne_eqb x 60 (omega arith)) (ne_eqb x 62 (omega arith)) (ne_eqb x 34 (omega arith)) (ne_eqb x 39 (omega arith))) (search rules)
