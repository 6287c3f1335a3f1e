use Rattle.std.proofs.Common.{◌≡◌, take}
use Rattle.ctt_text.specs.TextPlaces.{last_line}
use Rattle.ctt_text.proofs.places.last_line.Given as goal

abbrev pub invariant-loop-byte : goal.invariant-loop-byte
invariant-loop-byte l = l.line.items ≡ last_line (take l.byte-index l.text)
