use Rattle.std.proofs.Common.{◌≡◌, ◌≤◌, drop}
use Rattle.ctt_text.proofs.places.skip_words.Given as goal

abbrev pub invariant-loop : goal.invariant-loop
invariant-loop l = (l.words ≡ drop l.counter l.initial.words) × (l.counter ≤ l.count)
