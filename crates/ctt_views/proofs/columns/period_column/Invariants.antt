use Rattle.std.proofs.Common.{◌≡◌, [], ◌∷◌, codes}
use Rattle.std.specs.Fmt.{decimal}
use Rattle.ctt_views.specs.Week.{for_each}
use Rattle.ctt_views.proofs.columns.period_column.Given as goal

abbrev pub invariant-loop-period : goal.invariant-loop-period
invariant-loop-period l = l.column ≡ codes "period" ∷ for_each (λ p. decimal p ∷ []) l.period-counter
