-- A new desk: its opening, and its planners.
use Rattle.std.proofs.Common.{◌≡◌, ℕ, zero, suc, ◌+◌, List, drop, [], ◌∷◌, ◌++◌, Option, None, refl}
use Rattle.ctt_problem.specs.Problem.{Problem}
use Rattle.ctt_problem.specs.declared.placed.Placed.{Placed}
use Rattle.ctt_core.specs.Answers.{OpenValue}
use Rattle.ctt_core.specs.Desks.{draft_at}
use Rattle.ctt_edits.specs.Openings.{opening, placed_on}

-- the loop invariant of placing lectures: the first `at` are placed, and t is their timetable
pub record Placing (i j : Problem) (ls t : List Placed) (at : ℕ) : Type 0 where
  pub same : j ≡ i
  pub rest : opening i ls ≡ placed_on i t (at + 1) (drop at ls)

-- one more planner without a draft
pub none_more : (xs : List (Option OpenValue)) → ((p : ℕ) → draft_at xs p ≡ None) → (p : ℕ) → draft_at (xs ++ None ∷ []) p ≡ None
none_more [] h zero = refl
none_more [] h (suc p) = refl
none_more (x ∷ xs) h zero = h zero
none_more (x ∷ xs) h (suc p) = none_more xs (λ q. h (suc q)) p
