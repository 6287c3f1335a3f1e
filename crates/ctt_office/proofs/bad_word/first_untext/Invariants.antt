use Rattle.std.proofs.Common.{◌≡◌, ◌+◌, length}
use Rattle.ctt_text.specs.Words.{words}
use Rattle.ctt_office.specs.BadWords.{first_untext}
use Rattle.ctt_office.proofs.bad_word.first_untext.Given as goal

-- the words before these are UTF-8
abbrev pub invariant-loop-word : goal.invariant-loop-word
invariant-loop-word l = (first_untext l.at l.word-iterator ≡ first_untext 1 (words l.line)) × (l.at + length l.word-iterator ≡ 1 + length (words l.line))
