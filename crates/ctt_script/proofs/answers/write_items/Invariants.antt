use Rattle.std.proofs.Common.{◌≡◌, ◌++◌, ◌∷◌, drop, flat_map, length, string_bytes}
use Rattle.std.specs.Fmt.{decimal}
use Rattle.ctt_line.specs.Lines.{line}
use Rattle.ctt_script.proofs.WrittenText.{items_part}
use Rattle.ctt_script.proofs.answers.write_items.Given as goal

-- what is there, and the items that are left
abbrev pub invariant-loop-item : goal.invariant-loop-item
invariant-loop-item g l = string_bytes l.text ++ items_part (g.T.Item.words l.instance) (drop l.item-index l.items) ≡ string_bytes l.fn.text ++ line (l.kind ∷ decimal (length l.items) ∷ flat_map (g.T.Item.words l.instance) l.items)
