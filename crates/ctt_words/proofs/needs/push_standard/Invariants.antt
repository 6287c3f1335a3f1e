use Rattle.std.proofs.Common.{◌≡◌, ◌++◌, drop, map}
use Rattle.ctt_words.specs.Needs.{called_standard}
use Rattle.ctt_words.proofs.needs.push_standard.Given as goal

-- what was found so far, and what the words that are left add, are all
abbrev pub invariant-loop-word : goal.invariant-loop-word
invariant-loop-word l = map (λ word. word.now) l.found.items ++ called_standard l.label (map (λ word. word.now) (drop l.word-index l.words))
    ≡ map (λ word. word.now) l.initial.found.items ++ called_standard l.label (map (λ word. word.now) l.words)
