use Rattle.std.proofs.Common.{◌≡◌, ◌++◌, drop, map}
use Rattle.ctt_commands.specs.Columns.{column_name}
use Rattle.ctt_commands.proofs.texts.head.Given as goal

-- the names so far, and those of the columns that are left
abbrev pub invariant-loop-column : goal.invariant-loop-column
invariant-loop-column l = l.head ++ map column_name (drop l.column-index l.columns) ≡ map column_name l.columns
