use Rattle.std.specs.Io.KnownBytes.{Keeps}
use Rattle.ctt_log.specs.Recovery.{HasNoNewline}
use Rattle.ctt_office.specs.Lines.{coming}
use Rattle.ctt_office.proofs.NextLemmas.{HasRead}
use Rattle.ctt_office.proofs.line_reader.LineReader.fetch.Given as goal

abbrev pub invariant-loop : goal.invariant-loop
invariant-loop g l = (goal.iterator-loop g).can_next l.iterator' × (goal.iterator-loop g).is_finite l.iterator' × HasNoNewline l.self.held × Keeps (coming l.fn.self) (coming l.self) × HasRead l.fn.self l.self
