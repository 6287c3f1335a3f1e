use Rattle.std.proofs.Common.{◌≡◌, ◌++◌, drop, map, string_bytes}
use Rattle.std.specs.List.{flat_map}
use Rattle.ctt_findings.specs.Csv.{next_field}
use Rattle.ctt_commands.proofs.csv_rows.push_others.Given as goal

-- the text so far and the fields that are left
abbrev pub invariant-loop-other : goal.invariant-loop-other
invariant-loop-other l = l.text.items ++ flat_map next_field (map string_bytes (drop l.other-index l.others))
    ≡ l.initial.text.items ++ flat_map next_field (map string_bytes l.others)
