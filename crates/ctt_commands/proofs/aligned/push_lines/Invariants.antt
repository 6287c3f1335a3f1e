use Rattle.std.proofs.Common.{◌≡◌, ◌++◌, drop}
use Rattle.std.specs.List.{flat_map}
use Rattle.ctt_commands.specs.Tables.{aligned_line}
use Rattle.ctt_commands.proofs.aligned.push_lines.Given as goal

-- the text so far and the lines of the rows that are left
abbrev pub invariant-loop-row : goal.invariant-loop-row
invariant-loop-row l = l.text.items ++ flat_map (aligned_line l.widths) (drop l.row-index l.rows)
    ≡ l.initial.text.items ++ flat_map (aligned_line l.widths) l.rows
