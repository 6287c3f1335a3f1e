use Rattle.std.proofs.Common.{◌≡◌, ℕ, ◌≤◌, ◌==◌, take}
use Rattle.std.specs.List.{list_any}
use Rattle.ctt_problem.specs.Marks.{is_marked}
use Rattle.ctt_problem.specs.declared.placed.Placed.{Placed}
use Rattle.ctt_rules.specs.Penalty.{rooms_of}
use Rattle.ctt_rules.proofs.soft.room_count.Given as goal

abbrev pub invariant-loop-lecture : goal.invariant-loop-lecture
invariant-loop-lecture l = record {
  so_far : l.count ≡ rooms_of l.instance (take l.lecture-index l.lectures);
  few : l.count ≤ l.lecture-index;
  marked : (d : ℕ) → is_marked l.seen d ≡ list_any (λ (x : Placed). x.room == d) (take l.lecture-index l.lectures);
}
