use Rattle.std.proofs.Common.{◌≡◌, ◌&&◌, ℕ, nat_lt}
use Rattle.ctt_problem.specs.Problem.{slot_count, day_of, period_of}
use Rattle.ctt_problem.specs.Marks.{is_marked}
use Rattle.ctt_text.specs.BlockedPlaces.{is_chosen}
use Rattle.ctt_text.proofs.instance.closing.slots_on_all_days.Given as goal

-- the marks of the days so far
abbrev pub invariant-loop-day : goal.invariant-loop-day
invariant-loop-day l = (n : ℕ) → is_marked l.marks n ≡ (nat_lt n (slot_count l.instance) && (nat_lt (day_of l.instance n) l.day && is_chosen l.period (period_of l.instance n)))
