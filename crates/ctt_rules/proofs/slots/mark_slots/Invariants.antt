use Rattle.std.proofs.Common.{◌≡◌, ℕ, ◌||◌, take}
use Rattle.ctt_problem.specs.Marks.{is_marked}
use Rattle.ctt_rules.specs.Neighbours.{busy}
use Rattle.ctt_rules.proofs.slots.mark_slots.Given as goal

abbrev pub invariant-loop-lecture : goal.invariant-loop-lecture
invariant-loop-lecture l = (s : ℕ) → is_marked l.slots s ≡ (is_marked l.initial.slots s || busy (take l.lecture-index l.lectures) s)
