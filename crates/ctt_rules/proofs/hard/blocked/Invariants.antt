use Rattle.std.proofs.Common.{◌≡◌, ◌≤◌, take}
use Rattle.ctt_rules.specs.Hard.{blocked_count}
use Rattle.ctt_rules.proofs.hard.blocked.Given as goal

abbrev pub invariant-loop-lecture : goal.invariant-loop-lecture
invariant-loop-lecture l = record {
  so_far : l.count ≡ blocked_count l.instance (take l.lecture-index l.lectures);
  few : l.count ≤ l.lecture-index;
}
