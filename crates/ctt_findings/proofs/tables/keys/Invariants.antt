use Rattle.std.proofs.Common.{◌≡◌, map, take}
use Rattle.ctt_findings.proofs.tables.keys.Given as goal

abbrev pub invariant-loop-fact : goal.invariant-loop-fact
invariant-loop-fact l = map (λ key. key.now) l.keys.items ≡ map (λ f. f.key) (take l.fact-index l.facts.items)
