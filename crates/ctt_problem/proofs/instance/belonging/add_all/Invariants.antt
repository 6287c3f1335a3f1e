use Rattle.std.proofs.Common.{◌≡◌, ◌<◌, ℕ, [], map, get_or, length}
use Rattle.ctt_problem.specs.Lists.{has, below}
use Rattle.ctt_problem.proofs.instance.belonging.add_all.Given as goal

abbrev pub invariant-loop-number : goal.invariant-loop-number
invariant-loop-number l = record {
  size : length l.lists ≡ length l.fn.lists;
  lists : (c : ℕ) → c < length l.fn.lists → get_or (map (λ v. v.items) l.lists) c [] ≡ below (λ q. has c (get_or (map (λ v. v.items) l.curricula) q [])) l.number;
}
