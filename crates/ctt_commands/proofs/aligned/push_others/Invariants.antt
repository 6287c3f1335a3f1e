use Rattle.std.proofs.Common.{◌≡◌, ◌+◌, ◌++◌}
use Rattle.ctt_commands.specs.Tables.{each_below, right}
use Rattle.ctt_commands.proofs.aligned.push_others.Given as goal

abbrev pub invariant-loop-column : goal.invariant-loop-column
invariant-loop-column l = l.text.items ≡ l.initial.text.items ++ each_below (λ k. right l.widths l.cells (k + 1)) l.column
