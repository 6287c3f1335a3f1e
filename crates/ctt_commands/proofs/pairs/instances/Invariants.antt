use Rattle.std.proofs.Common.{◌≡◌, map, string_bytes, take}
use Rattle.ctt_commands.specs.Pairs.{firsts, name_pair}
use Rattle.ctt_commands.proofs.pairs.instances.Given as goal

-- the names in the pairs so far
abbrev pub invariant-loop-pair : goal.invariant-loop-pair
invariant-loop-pair l = map string_bytes l.names.items ≡ firsts (map (λ pair. pair.0) (map name_pair (take l.pair-index l.pairs)))
