use Rattle.std.proofs.Common.{◌≡◌, ◌++◌, flat_map, string_bytes, take}
use Rattle.ctt_findings.specs.Lines.{line}
use Rattle.ctt_findings.proofs.lines.push_lines.Given as goal

abbrev pub invariant-loop-finding : goal.invariant-loop-finding
invariant-loop-finding l = string_bytes l.text ≡ string_bytes l.initial.text ++ flat_map (line l.instance) (take l.finding-index l.found)
