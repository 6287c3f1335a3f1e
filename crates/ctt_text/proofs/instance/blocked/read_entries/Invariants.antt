use Rattle.std.proofs.Common.{◌≡◌, ◌-◌}
use Rattle.ctt_text.specs.Forms.{times}
use Rattle.ctt_text.specs.BlockedPlaces.{reads_blocked, blocked_entry, AreTablesOf, closures_in}
use Rattle.ctt_text.proofs.instance.blocked.read_entries.Given as goal

-- parsing so far, followed by parsing the rest, is parsing all
abbrev pub invariant-loop : goal.invariant-loop
invariant-loop l = record {
  size : AreTablesOf l.instance l.tables;
  exact : reads_blocked (times (blocked_entry l.instance) (l.count - l.counter) (closures_in l.tables)) l.reader ≡ reads_blocked (times (blocked_entry l.instance) l.count (closures_in l.fn.tables)) l.fn.reader;
}
