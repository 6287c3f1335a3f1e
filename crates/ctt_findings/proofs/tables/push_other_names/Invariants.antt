use Rattle.std.proofs.Common.{◌≡◌, ◌++◌, drop, flat_map, map}
use Rattle.ctt_findings.specs.Csv.{next_field}
use Rattle.ctt_findings.proofs.tables.push_other_names.Given as goal

-- the text so far and the names that are left
abbrev pub invariant-loop-name : goal.invariant-loop-name
invariant-loop-name l = l.text.items ++ flat_map next_field (map (λ name. name.now) (drop l.name-index l.names))
    ≡ l.initial.text.items ++ flat_map next_field (map (λ name. name.now) l.names)
