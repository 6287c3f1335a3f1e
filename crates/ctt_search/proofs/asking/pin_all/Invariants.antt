use Rattle.std.proofs.Common.{◌≡◌, ◌<◌, ℕ, true}
use Rattle.ctt_problem.specs.BitRows.{HasSize, is_marked_in}
use Rattle.ctt_search.proofs.asking.pin_all.Given as goal

abbrev pub invariant-loop-slot : goal.invariant-loop-slot
invariant-loop-slot l = record {
  size : HasSize l.pins l.slots l.courses;
  all : (s : ℕ) → s < l.slot → (n : ℕ) → n < l.courses → is_marked_in l.pins s n ≡ true;
}
