use Rattle.std.proofs.Common.{◌≡◌, ◌++◌, List, drop}
use Rattle.ctt_commands.specs.Rows.{IsRow}
use Rattle.ctt_commands.specs.declared.row.Row.{Row}
use Rattle.ctt_commands.proofs.CompareLemmas.{IsAhead}
use Rattle.ctt_commands.proofs.rows.push_solutions.Given as goal

-- the rows of the files before the remaining ones were added
abbrev pub invariant-loop-candidate : goal.invariant-loop-candidate
invariant-loop-candidate l = (added : List Row) × (l.rows.items ≡ l.initial.rows.items ++ added)
    × IsAhead (IsRow l.number l.name l.instance) l.candidates (drop l.candidate-index l.candidates) added
