use Rattle.std.proofs.Common.{◌≡◌, ◌==◌, ◌&&◌, ◌||◌, ℕ, nat_lt}
use Rattle.ctt_problem.specs.Problem.{slot_count, day_of, period_of}
use Rattle.ctt_problem.specs.Marks.{is_marked}
use Rattle.ctt_text.proofs.instance.closing.mark_day.Given as goal

-- the marks of the periods so far
abbrev pub invariant-loop-period : goal.invariant-loop-period
invariant-loop-period l = (n : ℕ) → is_marked l.marks n ≡ (is_marked l.fn.marks n || (nat_lt n (slot_count l.instance) && (day_of l.instance n == l.day && nat_lt (period_of l.instance n) l.period)))
