use Rattle.std.proofs.Common.{◌≡◌, drop}
use Rattle.ctt_findings.proofs.ObjectLemmas.{items_before}
use Rattle.ctt_commands.specs.Tables.{objects}
use Rattle.ctt_commands.proofs.json_rows.array.Given as goal

-- the objects so far, and those of the rows that are left
abbrev pub invariant-loop-row : goal.invariant-loop-row
invariant-loop-row l = items_before l.list.items (objects l.columns (drop l.row-index l.rows)) ≡ objects l.columns l.rows
