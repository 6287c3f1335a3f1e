use Rattle.std.proofs.Common.{◌≡◌, ◌≤◌, take}
use Rattle.ctt_rules.specs.Hard.{barred_count}
use Rattle.ctt_rules.proofs.hard.barred.Given as goal

abbrev pub invariant-loop-lecture : goal.invariant-loop-lecture
invariant-loop-lecture l = record {
  so_far : l.count ≡ barred_count l.instance (take l.lecture-index l.lectures);
  few : l.count ≤ l.lecture-index;
}
