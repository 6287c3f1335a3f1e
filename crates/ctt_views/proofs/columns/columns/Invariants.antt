use Rattle.std.proofs.Common.{◌≡◌, [], ◌∷◌}
use Rattle.ctt_views.specs.Week.{day_column, for_each, period_column}
use Rattle.ctt_views.proofs.columns.columns.Given as goal

abbrev pub invariant-loop-day : goal.invariant-loop-day
invariant-loop-day l = l.columns.items ≡ period_column l.instance ∷ for_each (λ d. day_column l.instance l.selection l.lectures d ∷ []) l.day
