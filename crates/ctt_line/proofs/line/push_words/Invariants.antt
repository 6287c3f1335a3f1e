use Rattle.std.proofs.Common.{◌≡◌, ◌++◌, drop, string_bytes}
use Rattle.ctt_line.specs.Lines.{words_part}
use Rattle.ctt_line.proofs.line.push_words.Given as goal

abbrev pub invariant-loop-word : goal.invariant-loop-word
invariant-loop-word l = string_bytes l.text ++ words_part (drop l.word-index l.words) ≡ string_bytes l.initial.text ++ words_part l.words
