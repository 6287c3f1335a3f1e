use Rattle.std.proofs.Common.{◌≡◌, ℕ, List, ◌++◌, IsUtf8}
use Rattle.std.specs.Fmt.{HasWritten, IsPlainFormatter}
use Rattle.std.specs.Str.Iter.{chars_rest}
use Rattle.ctt_text.specs.Points.{printable}
use Rattle.ctt_text.proofs.shown.PrintableDisplay.fmt.Given as goal

-- the rest is text, and what is written, followed by the printable rest, is the whole printable text
abbrev pub invariant-loop-letter : goal.invariant-loop-letter
invariant-loop-letter g l =
    IsUtf8 (chars_rest l.letter-iterator)
    × (IsPlainFormatter l.initial.f
    → (done : List ℕ) × HasWritten g.W.Write.write_str_gives l.initial.f done l.f × (done ++ printable (chars_rest l.letter-iterator) ≡ printable l.fn.self.0.now))
