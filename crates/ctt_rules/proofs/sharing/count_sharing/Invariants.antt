use Rattle.std.proofs.Common.{◌≡◌, ◌+◌, ◌-◌, ◌*◌, ◌≤◌, []}
use Rattle.ctt_rules.specs.Earlier.{new_conflicts, only_in, room_taken, tally}
use Rattle.ctt_rules.proofs.sharing.count_sharing.Given as goal

abbrev pub invariant-loop-first : goal.invariant-loop-first
invariant-loop-first l = record {
  conflicts : l.sharing.conflicts ≡ tally (only_in 0 l.first (new_conflicts l.instance)) [] l.timetable;
  occupancy : l.sharing.occupancy ≡ tally (only_in 0 l.first room_taken) [] l.timetable;
  small : l.sharing.conflicts ≤ l.first * (2000 * 4000000);
  few : l.sharing.occupancy ≤ l.first * 4000000;
  near : l.first ≤ 2064;
}

abbrev pub decreases-loop-first : goal.decreases-loop-first
decreases-loop-first l = l.slots + 64 - l.first
