use Rattle.std.proofs.Common.{◌≡◌, drop}
use Rattle.ctt_commands.proofs.CompareLemmas.{AreRowsAhead}
use Rattle.ctt_commands.proofs.rows.rows_of.Given as goal

-- the rows of the groups before the remaining ones were added
abbrev pub invariant-loop-group : goal.invariant-loop-group
invariant-loop-group l = record {
  ahead : AreRowsAhead l.groups l.number (drop l.group-index l.groups) l.rows.items;
  counted : l.number ≡ l.group-index;
}
