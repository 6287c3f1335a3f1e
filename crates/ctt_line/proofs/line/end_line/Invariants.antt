use Rattle.std.proofs.Common.{◌≡◌, ◌++◌, drop, string_bytes}
use Rattle.ctt_line.specs.Lines.{rest_of_line}
use Rattle.ctt_line.proofs.line.end_line.Given as goal

abbrev pub invariant-loop-word : goal.invariant-loop-word
invariant-loop-word l = string_bytes l.text ++ rest_of_line (drop l.word-index l.words) ≡ string_bytes l.initial.text ++ rest_of_line l.words
