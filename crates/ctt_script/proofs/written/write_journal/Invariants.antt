use Rattle.std.proofs.Common.{◌≡◌, ◌++◌, ◌∷◌, [], take, length, flat_map, string_bytes, codes}
use Rattle.std.specs.Fmt.{decimal}
use Rattle.ctt_line.specs.Lines.{line}
use Rattle.ctt_script.specs.WrittenText.{entry_text}
use Rattle.ctt_script.proofs.written.write_journal.Given as goal

-- the entries so far
abbrev pub invariant-loop-entry : goal.invariant-loop-entry
invariant-loop-entry l = string_bytes l.text ≡ line (codes "journal" ∷ decimal (length l.entries) ∷ []) ++ flat_map (entry_text l.instance) (take l.entry-index l.entries)
