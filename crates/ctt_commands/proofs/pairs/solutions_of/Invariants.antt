use Rattle.std.proofs.Common.{◌≡◌, ◌++◌, drop, map, string_bytes}
use Rattle.ctt_commands.specs.Pairs.{name_pair, solutions_of}
use Rattle.ctt_commands.proofs.pairs.solutions_of.Given as goal

-- the solutions so far, and those of the pairs that are left
abbrev pub invariant-loop-pair : goal.invariant-loop-pair
invariant-loop-pair l = map string_bytes l.solutions.items ++ solutions_of (map name_pair (drop l.pair-index l.pairs)) l.name
    ≡ solutions_of (map name_pair l.pairs) l.name
