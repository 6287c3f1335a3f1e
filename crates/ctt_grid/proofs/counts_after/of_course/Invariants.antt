use Rattle.std.proofs.Common.{◌≡◌, ◌≤◌, ◌==◌, take, count_by}
use Rattle.ctt_grid.proofs.counts_after.of_course.Given as goal

abbrev pub invariant-loop-lecture : goal.invariant-loop-lecture
invariant-loop-lecture l = record {
  so_far : l.count ≡ count_by (λ x. x.course == l.course) (take l.lecture-index l.lectures);
  few : l.count ≤ l.lecture-index;
}
