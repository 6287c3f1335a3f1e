-- The planners of a desk, each of whom is given a thread.
use Rattle.std.proofs.Common.{◌≡◌, ◌∙◌, ◌+◌, ◌++◌, ◌∷◌, List, [], ℕ, zero, suc, append-nil, length, map, refl, ap, arith, sym}
use Rattle.std.proofs.lemmas.List.{length-append}
use Rattle.ctt_desk.specs.Planners.{new_planner, new_planners}

pub planners_many : (n : ℕ) → length (new_planners n) ≡ n
planners_many zero = refl
planners_many (suc n) = length-append (new_planners n) (new_planner n ∷ []) ∙ ap (λ k. k + 1) (planners_many n) ∙ (omega arith)

-- if nothing is left, all is taken
pub all_taken : {X Y : Type 0} (f : X → Y) (taken : List Y) (left : List X) (all : List Y) → length left ≡ 0 → taken ++ map f left ≡ all → taken ≡ all
all_taken f taken [] all none same = sym (append-nil taken) ∙ same
all_taken f taken (x ∷ xs) all none same = cc
