use Rattle.std.proofs.Common.{◌≡◌, ◌≤◌, ◌*◌, ◌&&◌, take, sum_by}
use Rattle.ctt_problem.specs.Lists.{count_below}
use Rattle.ctt_rules.specs.Windows.{has_bit, word_of}
use Rattle.ctt_rules.proofs.compactness.Words.count.Given as goal

abbrev pub invariant-loop-course : goal.invariant-loop-course
invariant-loop-course l = record {
  so_far : l.count ≡ sum_by (λ c. count_below (λ place. has_bit (word_of l.self c) place && has_bit l.bits place) 64) (take l.course-index l.courses);
  few : l.count ≤ 64 * l.course-index;
}
