use Rattle.std.proofs.Common.{◌≡◌, ◌∷◌, []}
use Rattle.ctt_commands.specs.Tables.{each_below, widest_cell}
use Rattle.ctt_commands.proofs.aligned.widths.Given as goal

abbrev pub invariant-loop-column : goal.invariant-loop-column
invariant-loop-column l = l.widths.items ≡ each_below (λ k. widest_cell k (l.head ∷ l.rows) ∷ []) l.column
