use Rattle.std.proofs.Common.{◌≡◌, ◌++◌, drop, flat_map, map}
use Rattle.ctt_findings.specs.Csv.{next_field}
use Rattle.ctt_findings.specs.Tables.{fact_row}
use Rattle.ctt_findings.proofs.tables.push_other_values.Given as goal

-- the text so far and the columns that are left
abbrev pub invariant-loop-column : goal.invariant-loop-column
invariant-loop-column l = l.text.items ++ flat_map next_field (fact_row (map (λ name. name.now) (drop l.column-index l.columns)) l.facts)
    ≡ l.initial.text.items ++ flat_map next_field (fact_row (map (λ name. name.now) l.columns) l.facts)
