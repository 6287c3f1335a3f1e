use Rattle.std.proofs.Common.{◌≡◌, ◌<◌, ℕ}
use Rattle.ctt_board.specs.Changes.{room_at}
use Rattle.ctt_draft.specs.Comparisons.{base_of}
use Rattle.ctt_draft.proofs.comparing.Comparison.same_course_row.Given as goal

abbrev pub invariant-loop-number : goal.invariant-loop-number
invariant-loop-number g l = (s : ℕ) → s < l.number → room_at l.course s (base_of l.self) ≡ room_at l.course s l.self.sheet
