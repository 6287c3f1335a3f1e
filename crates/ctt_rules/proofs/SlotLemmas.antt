-- Slots and their days.
use Rattle.std.proofs.Common.{ℕ, zero, suc, ◌*◌, ◌<◌, arith}
use Rattle.std.proofs.lemmas.Nat.{div_below}
use Rattle.ctt_problem.specs.Problem.{Problem, day_of, slot_count}

some_periods : (d p s : ℕ) → s < d * p → 0 < p
some_periods d zero s h = absurd (omega (arith, h))
some_periods d (suc p) s h = omega arith

-- if there is a slot, a day has periods
pub periods_above : (i : Problem) (s : ℕ) → s < slot_count i → 0 < i.periods
periods_above i s lt = some_periods i.days i.periods s lt

pub day_fits : (i : Problem) (s : ℕ) → s < slot_count i → day_of i s < i.days
day_fits i s lt = div_below s i.periods i.days (periods_above i s lt) lt
