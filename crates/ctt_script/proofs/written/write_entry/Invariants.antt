use Rattle.std.proofs.Common.{◌≡◌, ◌++◌, ◌∷◌, [], take, length, flat_map, string_bytes, codes}
use Rattle.std.specs.Fmt.{decimal}
use Rattle.ctt_line.specs.Lines.{line}
use Rattle.ctt_script.specs.WrittenText.{asked_text}
use Rattle.ctt_script.proofs.written.write_entry.Given as goal

-- the calls so far
abbrev pub invariant-loop-one : goal.invariant-loop-one
invariant-loop-one l = string_bytes l.text ≡ string_bytes l.fn.text ++ (line (codes "entry" ∷ decimal l.fn.planner ∷ decimal (length l.asked) ∷ []) ++ flat_map (asked_text l.instance) (take l.one-index l.asked))
