use Rattle.std.proofs.Common.{◌≡◌, drop, map}
use Rattle.ctt_words.specs.Outlines.{named_in, names_by}
use Rattle.ctt_words.proofs.outline.find.Given as goal

-- the command is found among those that are left, if at all
abbrev pub invariant-loop-outline : goal.invariant-loop-outline
invariant-loop-outline l = named_in (map names_by (drop l.outline-index l.outlines)) l.name ≡ named_in (map names_by l.outlines) l.name
