use Rattle.std.proofs.Common.{◌≡◌, ◌++◌, drop}
use Rattle.ctt_commands.specs.Tables.{texts_of}
use Rattle.ctt_commands.proofs.texts.texts_of.Given as goal

-- the words so far, and those of the columns that are left
abbrev pub invariant-loop-column : goal.invariant-loop-column
invariant-loop-column l = l.texts ++ texts_of (drop l.column-index l.columns) l.row ≡ texts_of l.columns l.row
