use Rattle.std.proofs.Common.{◌≡◌, ◌++◌, IsUtf8, chars, flat_map}
use Rattle.std.specs.Str.Iter.{chars_rest}
use Rattle.ctt_commands.specs.Places.{below_char}
use Rattle.ctt_commands.proofs.places.push_below_text.Given as goal

-- the rest is text, and what is below it, behind what is there, is what is below the whole line
abbrev pub invariant-loop-letter : goal.invariant-loop-letter
invariant-loop-letter l = IsUtf8 (chars_rest l.letter-iterator)
    × (l.text.items ++ flat_map below_char (chars (chars_rest l.letter-iterator)) ≡ l.initial.text.items ++ flat_map below_char (chars l.line))
