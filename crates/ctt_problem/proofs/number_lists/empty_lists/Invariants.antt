use Rattle.std.proofs.Common.{◌≡◌, ℕ, [], map, get_or, length}
use Rattle.ctt_problem.proofs.number_lists.empty_lists.Given as goal

abbrev pub invariant-loop : goal.invariant-loop
invariant-loop g l = record {
  size : length l.lists.items ≡ l.counter;
  empty : (c : ℕ) → get_or (map (λ v. v.items) l.lists.items) c [] ≡ [];
}
