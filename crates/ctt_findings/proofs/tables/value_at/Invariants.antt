use Rattle.std.proofs.Common.{◌≡◌, drop}
use Rattle.ctt_findings.specs.Tables.{value_at}
use Rattle.ctt_findings.proofs.tables.value_at.Given as goal

-- the fact is among those that are left
abbrev pub invariant-loop-fact : goal.invariant-loop-fact
invariant-loop-fact l = value_at (drop l.fact-index l.facts) l.key ≡ value_at l.facts l.key
