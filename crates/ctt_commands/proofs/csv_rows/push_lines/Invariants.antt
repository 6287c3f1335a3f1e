use Rattle.std.proofs.Common.{◌≡◌, ◌++◌, drop}
use Rattle.std.specs.List.{flat_map}
use Rattle.ctt_findings.specs.Csv.{csv_line}
use Rattle.ctt_commands.proofs.csv_rows.push_lines.Given as goal

-- the text so far and the lines of the rows that are left
abbrev pub invariant-loop-row : goal.invariant-loop-row
invariant-loop-row l = l.text.items ++ flat_map csv_line (drop l.row-index l.rows)
    ≡ l.initial.text.items ++ flat_map csv_line l.rows
