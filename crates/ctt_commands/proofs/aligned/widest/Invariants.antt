use Rattle.std.proofs.Common.{◌≡◌, ◌∷◌, drop, fold, max}
use Rattle.ctt_commands.specs.Tables.{text_at, widest_cell, text_width}
use Rattle.ctt_commands.proofs.aligned.widest.Given as goal

-- the widest cell so far, and those that are left
abbrev pub invariant-loop-row : goal.invariant-loop-row
invariant-loop-row l = fold (λ n cells. max n (text_width (text_at cells l.column))) l.widest (drop l.row-index l.rows)
    ≡ widest_cell l.column (l.head ∷ l.rows)
