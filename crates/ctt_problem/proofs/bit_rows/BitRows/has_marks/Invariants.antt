use Rattle.std.proofs.Common.{◌≡◌, ◌<◌, ℕ, get_or}
use Rattle.ctt_problem.proofs.bit_rows.BitRows.has_marks.Given as goal

abbrev pub invariant-loop-word : goal.invariant-loop-word
invariant-loop-word l = (p : ℕ) → p < l.word-index → get_or l.self.words p 0 ≡ 0
