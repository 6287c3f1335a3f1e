use Rattle.std.proofs.Common.{◌≡◌, ℕ, length, None}
use Rattle.ctt_core.specs.Desks.{draft_at}
use Rattle.ctt_core.proofs.desk.no_drafts.Given as goal

abbrev pub invariant-loop : goal.invariant-loop
invariant-loop g l = (length l.drafts.items ≡ l.counter) × ((p : ℕ) → draft_at l.drafts.items p ≡ None)
