use Rattle.std.proofs.Common.{◌≡◌, [], ◌∷◌, ◌++◌, codes}
use Rattle.std.specs.Fmt.{decimal}
use Rattle.ctt_problem.specs.Problem.{slot_of}
use Rattle.ctt_views.specs.Week.{cell, for_each}
use Rattle.ctt_views.proofs.columns.day_column.Given as goal

abbrev pub invariant-loop-period : goal.invariant-loop-period
invariant-loop-period l = l.column ≡ (codes "day " ++ decimal l.day) ∷ for_each (λ p. cell l.instance l.selection l.lectures (slot_of l.instance l.day p) ∷ []) l.period
