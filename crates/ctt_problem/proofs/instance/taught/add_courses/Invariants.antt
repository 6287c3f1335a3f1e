use Rattle.std.proofs.Common.{◌≡◌, ◌<◌, ◌==◌, ℕ, [], map, get_or, length}
use Rattle.ctt_problem.specs.Lists.{below}
use Rattle.ctt_problem.specs.Taught.{teacher_at}
use Rattle.ctt_problem.proofs.instance.taught.add_courses.Given as goal

abbrev pub invariant-loop-number : goal.invariant-loop-number
invariant-loop-number l = record {
  size : length l.lists ≡ length l.fn.lists;
  lists : (h : ℕ) → h < length l.fn.lists → get_or (map (λ v. v.items) l.lists) h [] ≡ below (λ c. teacher_at l.courses c == h) l.number;
}
