use Rattle.std.proofs.Common.{◌≡◌, ◌≤◌, ◌+◌, drop, map}
use Rattle.clap.specs.Words.{first_of, found_of, rows_of}
use Rattle.ctt_words.specs.Matched.{count_given}
use Rattle.ctt_words.proofs.arguments.count.Given as goal

-- the options counted so far, and those that are left, are all
abbrev pub invariant-loop-id : goal.invariant-loop-id
invariant-loop-id l = (l.count + count_given (map (λ id. first_of id.now (rows_of (found_of l.given))) (drop l.id-index l.ids))
    ≡ count_given (map (λ id. first_of id.now (rows_of (found_of l.given))) l.ids)) × (l.count ≤ l.id-index)
