use Rattle.std.proofs.Common.{◌≡◌, ◌+◌, ◌*◌, ◌<◌, ◌≤◌, ◌==◌, ◌&&◌, ℕ, [], take}
use Rattle.std.specs.List.{list_any}
use Rattle.ctt_problem.specs.declared.placed.Placed.{Placed}
use Rattle.ctt_rules.specs.Earlier.{in_row, new_conflicts, only_in, room_taken, tally}
use Rattle.ctt_rules.proofs.sharing.count_block.Given as goal

abbrev pub invariant-loop-lecture : goal.invariant-loop-lecture
invariant-loop-lecture l = record {
  first : l.block.first ≡ l.first;
  courses : (r n : ℕ) → r < 64 → in_row l.block.courses r n ≡ list_any (λ (y : Placed). y.slot == l.first + r && y.course == n) (take l.lecture-index l.timetable);
  rooms : (r n : ℕ) → r < 64 → in_row l.block.rooms r n ≡ list_any (λ (y : Placed). y.slot == l.first + r && y.room == n) (take l.lecture-index l.timetable);
  conflicts : l.block.sharing.conflicts ≡ tally (only_in l.first (l.first + 64) (new_conflicts l.instance)) [] (take l.lecture-index l.timetable);
  occupancy : l.block.sharing.occupancy ≡ tally (only_in l.first (l.first + 64) room_taken) [] (take l.lecture-index l.timetable);
  small : l.block.sharing.conflicts ≤ 2000 * l.lecture-index;
  few : l.block.sharing.occupancy ≤ l.lecture-index;
}
