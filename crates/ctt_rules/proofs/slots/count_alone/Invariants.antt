use Rattle.std.proofs.Common.{◌≡◌, ◌≤◌, take, count_by, not}
use Rattle.ctt_problem.specs.Marks.{is_marked}
use Rattle.ctt_rules.specs.Neighbours.{is_beside}
use Rattle.ctt_rules.proofs.slots.count_alone.Given as goal

abbrev pub invariant-loop-lecture : goal.invariant-loop-lecture
invariant-loop-lecture l = record {
  so_far : l.count ≡ count_by (λ x. not (is_beside l.instance (is_marked l.slots) x.slot)) (take l.lecture-index l.lectures);
  few : l.count ≤ l.lecture-index;
}
