use Rattle.std.proofs.Common.{◌≡◌, ◌≤◌, ◌*◌}
use Rattle.ctt_problem.specs.Lists.{count_below}
use Rattle.ctt_problem.proofs.MarkLemmas.{in_both}
use Rattle.ctt_problem.proofs.marks.Marks.count_common.Given as goal

abbrev pub invariant-loop-place : goal.invariant-loop-place
invariant-loop-place l = record {
  few : l.count ≤ l.place * 64;
  so_far : l.count ≡ count_below (in_both l.self-inside.words l.other-inside.words) (l.place * 64);
}
