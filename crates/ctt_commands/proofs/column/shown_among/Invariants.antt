use Rattle.std.proofs.Common.{◌≡◌, ◌++◌, drop}
use Rattle.std.specs.List.{filter}
use Rattle.ctt_commands.specs.Columns.{is_shown}
use Rattle.ctt_commands.proofs.column.shown_among.Given as goal

-- the columns so far, and those that are left
abbrev pub invariant-loop-column : goal.invariant-loop-column
invariant-loop-column l = l.shown.items ++ filter (is_shown l.shape) (drop l.column-index l.all) ≡ filter (is_shown l.shape) l.all
