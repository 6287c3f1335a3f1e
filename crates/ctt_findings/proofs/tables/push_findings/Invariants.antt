use Rattle.std.proofs.Common.{◌≡◌, ◌++◌, drop, map}
use Rattle.ctt_findings.specs.Csv.{csv}
use Rattle.ctt_findings.specs.Tables.{fact_row, row_facts}
use Rattle.ctt_findings.proofs.tables.push_findings.Given as goal

-- the text so far and the rows of the findings that are left
abbrev pub invariant-loop-finding : goal.invariant-loop-finding
invariant-loop-finding l = l.text.items ++ csv (map (λ f. fact_row (map (λ name. name.now) l.columns) (row_facts l.instance f)) (drop l.finding-index l.found))
    ≡ l.initial.text.items ++ csv (map (λ f. fact_row (map (λ name. name.now) l.columns) (row_facts l.instance f)) l.found)
