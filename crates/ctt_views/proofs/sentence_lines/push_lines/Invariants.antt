use Rattle.std.proofs.Common.{◌≡◌, ◌++◌, flat_map, string_bytes, take}
use Rattle.ctt_views.specs.Sentences.{sentence_line}
use Rattle.ctt_views.proofs.sentence_lines.push_lines.Given as goal

abbrev pub invariant-loop-finding : goal.invariant-loop-finding
invariant-loop-finding l = string_bytes l.text ≡ string_bytes l.initial.text ++ flat_map (sentence_line l.instance) (take l.finding-index l.found)
