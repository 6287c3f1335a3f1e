use Rattle.std.proofs.Common.{◌≡◌, length}
use Rattle.ctt_log.specs.Recovery.{AreEntries}
use Rattle.ctt_log.proofs.blocks.read_whole.Given as goal

-- the entries parsed so far, one after another
abbrev pub invariant-loop : goal.invariant-loop
invariant-loop l = AreEntries l.instance l.fn.reader l.entries.items l.reader × (length l.entries.items ≡ l.counter)
