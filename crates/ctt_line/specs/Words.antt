-- The text of a word.
use Rattle.std.specs.Prelude.{ℕ, List}
use Rattle.std.specs.Fmt.{decimal, signed_decimal}
use Rattle.ctt_line.specs.declared.word.Form.{Form}
use Rattle.ctt_line.specs.declared.word.Form.TheVariants.{Text, Number, Amount}

-- the bytes of a word, with numbers in decimal
abbrev pub bytes_of : Form → List ℕ
bytes_of (Text w) = w.now
bytes_of (Number n) = decimal n
bytes_of (Amount n) = signed_decimal n
