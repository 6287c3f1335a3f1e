use Rattle.std.proofs.Common.{◌≡◌, ◌<◌, ℕ, true}
use Rattle.ctt_draft.specs.Comparisons.{agrees_in_room}
use Rattle.ctt_draft.proofs.comparing.Comparison.same_slot_row.Given as goal

abbrev pub invariant-loop-number : goal.invariant-loop-number
invariant-loop-number g l = (r : ℕ) → r < l.number → agrees_in_room l.slot r l.self ≡ true
