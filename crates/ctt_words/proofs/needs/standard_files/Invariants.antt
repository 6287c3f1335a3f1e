use Rattle.std.proofs.Common.{◌≡◌, ◌++◌, Bor, List, ℕ, drop, map}
use Rattle.clap.specs.Words.{found_of, rows_of}
use Rattle.ctt_words.specs.Needs.{standard_among, words_read}
use Rattle.ctt_words.proofs.needs.standard_files.Given as goal

-- what was found so far, and what the words that are left add, are all
abbrev pub invariant-loop-label : goal.invariant-loop-label
invariant-loop-label l = map (λ word. word.now) l.found.items
    ++ standard_among (rows_of (found_of l.given)) (map (λ (one : Bor (List ℕ) × Bor (List ℕ)). (one.0.now, one.1.now)) (drop l.label-index l.label-items))
    ≡ standard_among (rows_of (found_of l.given)) (words_read l.fn.command)
