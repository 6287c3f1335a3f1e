use Rattle.std.proofs.Common.{◌≡◌, ◌++◌, drop, map}
use Rattle.ctt_commands.specs.Tables.{texts_of}
use Rattle.ctt_commands.proofs.texts.all_texts.Given as goal

-- the rows so far, and those that are left
abbrev pub invariant-loop-row : goal.invariant-loop-row
invariant-loop-row l = l.all.items ++ map (texts_of l.columns) (drop l.row-index l.rows) ≡ map (texts_of l.columns) l.rows
