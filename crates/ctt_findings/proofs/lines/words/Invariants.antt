use Rattle.std.proofs.Common.{◌≡◌, map, take}
use Rattle.ctt_findings.specs.Lines.{text_of_fact}
use Rattle.ctt_findings.proofs.lines.words.Given as goal

abbrev pub invariant-loop-fact : goal.invariant-loop-fact
invariant-loop-fact l = l.words.items ≡ map text_of_fact (take l.fact-index l.facts.items)
