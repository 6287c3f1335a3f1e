-- The slots directly before and after a slot.
use Rattle.std.specs.Prelude.{ℕ, ◌+◌, ◌-◌, Bool, List, ◌==◌, ◌&&◌, ◌||◌, nat_lt}
use Rattle.std.specs.List.{list_any}
use Rattle.ctt_problem.specs.Problem.{Problem, period_of}
use Rattle.ctt_problem.specs.declared.placed.Placed.{Placed}

-- some lecture is in the slot
abbrev pub busy : List Placed → ℕ → Bool
busy ls s = list_any (λ l. l.slot == s) ls

-- the slot before or the one after, on the same day, passes the test p
abbrev pub is_beside : Problem → (ℕ → Bool) → ℕ → Bool
is_beside i p s = (nat_lt 0 (period_of i s) && p (s - 1)) || (nat_lt (period_of i s + 1) i.periods && p (s + 1))
