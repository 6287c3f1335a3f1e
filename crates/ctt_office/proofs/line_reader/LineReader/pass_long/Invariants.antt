use Rattle.ctt_office.proofs.NextLemmas.{HasRead, IsPassing}
use Rattle.ctt_office.proofs.line_reader.LineReader.pass_long.Given as goal

abbrev pub invariant-loop : goal.invariant-loop
invariant-loop g l = (goal.iterator-loop g).can_next l.iterator' × (goal.iterator-loop g).is_finite l.iterator' × IsPassing l.fn.self l.self × HasRead l.fn.self l.self
