use Rattle.std.proofs.Common.{◌≡◌, ◌++◌, drop, map, string_bytes}
use Rattle.ctt_words.proofs.arguments.texts.Given as goal

-- the texts copied so far, and those that are left, are all
abbrev pub invariant-loop-text : goal.invariant-loop-text
invariant-loop-text l = map string_bytes l.owned.items ++ map (λ text. text.now) (drop l.text-index l.found) ≡ map (λ text. text.now) l.found
