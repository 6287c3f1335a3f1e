use Rattle.std.proofs.Common.{◌≡◌, ◌≤◌, ◌-◌, take, length}
use Rattle.ctt_script.proofs.kinds.is_word.Given as goal

abbrev pub invariant-loop-at : goal.invariant-loop-at
invariant-loop-at l = record {
  within : l.at ≤ length l.wanted;
  same : take l.at l.bytes ≡ take l.at l.wanted;
}

abbrev pub decreases-loop-at : goal.decreases-loop-at
decreases-loop-at l = length l.wanted - l.at
