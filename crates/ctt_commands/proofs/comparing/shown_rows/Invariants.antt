use Rattle.std.proofs.Common.{◌≡◌, ◌++◌}
use Rattle.std.specs.Vec.Iter.{into_iter_items}
use Rattle.ctt_commands.specs.Compare.{shown_rows}
use Rattle.ctt_commands.proofs.comparing.shown_rows.Given as goal

-- the rows so far, and those that are left
abbrev pub invariant-loop-row : goal.invariant-loop-row
invariant-loop-row l = l.shown.items ++ shown_rows l.faults (into_iter_items l.row-iterator) ≡ shown_rows l.faults l.fn.rows.items
