use Rattle.std.proofs.Common.{◌≡◌, ◌++◌, flat_map, string_bytes, take}
use Rattle.ctt_findings.specs.ReportText.{fact_line}
use Rattle.ctt_findings.proofs.report.push_facts.Given as goal

abbrev pub invariant-loop-fact : goal.invariant-loop-fact
invariant-loop-fact l = string_bytes l.report ≡ string_bytes l.initial.report ++ flat_map fact_line (take l.fact-index l.facts)
