use Rattle.std.proofs.Common.{◌≡◌, ◌++◌, List, drop, string_bytes}
use Rattle.ctt_commands.specs.Rows.{IsFaulty, IsRowOf}
use Rattle.ctt_commands.specs.declared.row.Row.{Row}
use Rattle.ctt_commands.proofs.CompareLemmas.{IsAhead}
use Rattle.ctt_commands.proofs.rows.push_refused.Given as goal

-- the rows of the files before the remaining ones were added
abbrev pub invariant-loop-file : goal.invariant-loop-file
invariant-loop-file l = (added : List Row) × (l.rows.items ≡ l.initial.rows.items ++ added)
    × IsAhead (λ file row. IsRowOf l.number l.name (string_bytes file) row × IsFaulty l.fault row.judged) l.files (drop l.file-index l.files) added
