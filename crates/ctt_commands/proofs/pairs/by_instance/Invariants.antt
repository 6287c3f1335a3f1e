use Rattle.std.proofs.Common.{◌≡◌, ◌++◌, map, string_bytes}
use Rattle.std.specs.Vec.Iter.{into_iter_items}
use Rattle.ctt_commands.specs.Pairs.{by_instance, name_pair, solutions_of, wanted_of}
use Rattle.ctt_commands.proofs.pairs.by_instance.Given as goal

-- the instances so far, and those that are left
abbrev pub invariant-loop-instance : goal.invariant-loop-instance
invariant-loop-instance l = map wanted_of l.wanted.items ++ map (λ name. (name, solutions_of (map name_pair l.pairs) name)) (map string_bytes (into_iter_items l.instance-iterator))
    ≡ by_instance (map name_pair l.pairs)
