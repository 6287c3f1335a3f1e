use Rattle.std.proofs.Common.{◌≡◌, ◌*◌, ◌≤◌, take, sum_by}
use Rattle.ctt_rules.specs.Penalty.{unseated}
use Rattle.ctt_rules.proofs.soft.capacity.Given as goal

abbrev pub invariant-loop-lecture : goal.invariant-loop-lecture
invariant-loop-lecture l = record {
  so_far : l.total ≡ sum_by (unseated l.instance) (take l.lecture-index l.lectures);
  small : l.total ≤ 999999999 * l.lecture-index;
}
