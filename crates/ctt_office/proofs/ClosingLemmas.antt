-- The end of a desk, by its keeper.
use Rattle.std.proofs.Common.{All, List, [], ◌∷◌, ◌++◌, ◌≡◌, ◌∙◌, ◌<◌, ◌≤◌, ◌+◌, ◌↔◌, ℕ, Option, Some, None, Result, Ok, Err, IsOk, IsSome, if◌then◌else◌, ap, arith, subst, length}
use Rattle.std.specs.Prelude.{is_ok, option_to_list}
use mathlib.Core.List.{IsPrefix}
use Rattle.ctt_core.specs.declared.journal.JournalEntry.{JournalEntry}
use Rattle.ctt_desk.specs.Planners.{PlannerValue}

-- what the only planner has seen
pub seen_by : (planners : List PlannerValue) (p : PlannerValue) (history : List JournalEntry) → planners ≡ p ∷ [] → All (λ (q : PlannerValue). IsPrefix q.front history) planners → IsPrefix p.front history
seen_by planners p history only all =
    let all_of : All (λ (q : PlannerValue). IsPrefix q.front history) (p ∷ []) = subst (λ (ps : List PlannerValue). All (λ (q : PlannerValue). IsPrefix q.front history) ps) only all in
    all_of 0 p (omega arith)

-- a list to which one item was added while it was empty
pub only_pushed : {X T E : Type 0} (pushed : Result T E) (old new : List X) (x : X) → new ≡ (if is_ok pushed then old ++ x ∷ [] else old) → IsOk pushed → old ≡ [] → new ≡ x ∷ []
only_pushed (Ok done) old new x is ok none = is ∙ ap (λ xs. xs ++ x ∷ []) none
only_pushed (Err failed) old new x is ok none = cc

-- of so many planners there is a last one
pub is_last_there : {X : Type 0} (last : Option X) (old count : ℕ) → IsSome last ↔ (0 < old) → old ≡ count → 1 ≤ count → IsSome last
is_last_there last old count some many least = some.1 (omega (arith, many, least))

-- and without him there is one less
pub without_last : {X : Type 0} (last : Option X) (old new count : ℕ) → IsSome last ↔ (0 < old) → new + length (option_to_list last) ≡ old → old ≡ count → 1 ≤ count → new + 1 ≡ count
without_last {X} None old new count some left many least = cc (is_last_there {X = X} None old count some many least)
without_last (Some x) old new count some left many least = omega (arith, left, many)
