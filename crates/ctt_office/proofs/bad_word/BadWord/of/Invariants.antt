use Rattle.std.proofs.Common.{◌≡◌, ◌+◌, ◌-◌, ◌≤◌, drop}
use Rattle.ctt_text.specs.Words.{words}
use Rattle.ctt_office.proofs.bad_word.BadWord.of.Given as goal

-- the words before these were taken
abbrev pub invariant-loop : goal.invariant-loop
invariant-loop l = (l.reader.words ≡ drop (l.reader.next - 1) (words l.text)) × (l.reader.next ≡ l.counter) × (1 ≤ l.counter) × (l.counter ≤ 1 + (l.at - 1))
