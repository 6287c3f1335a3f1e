use Rattle.std.proofs.Common.{◌≡◌, drop, map}
use Rattle.std.specs.List.{list_any}
use Rattle.ctt_words.specs.Needs.{is_standard}
use Rattle.ctt_words.proofs.needs.has_standard.Given as goal

-- standard input is among the words that are left, if at all
abbrev pub invariant-loop-word : goal.invariant-loop-word
invariant-loop-word l = list_any is_standard (map (λ word. word.now) (drop l.word-index l.words)) ≡ list_any is_standard (map (λ word. word.now) l.words)
