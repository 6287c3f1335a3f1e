-- Vectors of lists.
use Rattle.std.specs.Prelude.{◌≡◌, ◌<◌, ℕ, List, [], ◌∷◌, ◌++◌, Bool, cond, length, get_or}

-- the number is appended to the list at each index that passes the test
pub record AddsNumber {N : Type 0} (old new : List (List N)) (number : N) (test : ℕ → Bool) : Type 0 where
  pub size : length new ≡ length old
  pub lists : (p : ℕ) → p < length old → get_or new p [] ≡ get_or old p [] ++ cond (test p) (number ∷ []) []
