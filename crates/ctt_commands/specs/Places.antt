-- The place of a word or a byte in a text, and what `where` prints of it.
use Rattle.std.specs.Prelude.{◌≡◌, ◌⊎◌, ◌-◌, ◌/◌, ◌%◌, ◌≤◌, ◌<◌, ℕ, zero, Bool, true, false, List, [], ◌∷◌, ◌++◌, Option, Some, None, chars, codes, decimal, drop, flat_map, length, replicate, string_bytes, take, unwrap_or, ◌==◌, if◌then◌else◌}
use Rattle.unicode_width.specs.Width.{char_width}
use Rattle.std.specs.Fmt.{digits}
use Rattle.std.specs.Global.{Global}
use Rattle.std.specs.Str.{is_utf8}
use Rattle.std.specs.declared.string.String.{String}
use Rattle.ctt_text.specs.Numbers.{number_of}
use Rattle.ctt_text.specs.TextPlaces.{HasNoWord, IsWordAt, before_word, begins_char, first_line, last_line, place_text}
use Rattle.ctt_files.specs.declared.fault.ContentsFault.TheVariants.{Ends, NoByte, NoWord}
use Rattle.ctt_files.specs.declared.fault.Fault.{Fault}
use Rattle.ctt_files.specs.declared.fault.Fault.TheVariants.{Contents, Machine}
use Rattle.ctt_files.specs.declared.fault.MachineFault.TheVariants.{NoMemory}

-- ---- the number

-- a number from 1
abbrev pub from_one : Option ℕ → Option ℕ
from_one (Some zero) = None
from_one number = number

-- the number that asks for a place: of a byte from 0, or of a word from 1
abbrev pub place_number : Bool → List ℕ → Option ℕ
place_number true asked = number_of asked
place_number false asked = from_one (number_of asked)

-- the fault that what is asked for is no such number
abbrev pub no_number : Bool → String Global → String Global → Fault
no_number true asked file = Contents (NoByte asked file)
no_number false asked file = Contents (NoWord asked file)

-- the fault tells what was asked for of this file
abbrev pub IsNoNumber : Bool → List ℕ → List ℕ → Fault → Type 0
IsNoNumber byte asked file fault = (told name : String Global) × (string_bytes told ≡ asked) × (string_bytes name ≡ file) × (fault ≡ no_number byte told name)

-- ---- the place

-- what is below a character of the line before the mark: a tab below a tab, and as many blanks
-- below another character as it takes columns of a terminal
abbrev pub below_char : ℕ → List ℕ
below_char c = if c == 9 then 9 ∷ [] else replicate (unwrap_or (char_width false c) 0) 32

-- what is below a byte of a line that is not UTF-8: a tab below a tab, and a blank below another
-- one that begins a character
abbrev pub below_byte : ℕ → List ℕ
below_byte b = if b == 9 then 9 ∷ [] else (if begins_char b then 32 ∷ [] else [])

-- what is below the line before the mark
abbrev pub below : List ℕ → List ℕ
below line = if is_utf8 line then flat_map below_char (chars line) else flat_map below_byte line

-- the line around a place, with a mark below the character there
abbrev pub marked_line : List ℕ → ℕ → List ℕ
marked_line text start = last_line (take start text) ++ (first_line (drop start text)
    ++ (codes "\n" ++ (below (last_line (take start text)) ++ codes "^\n")))

-- a place in the text of a file with what is there, its line, and a mark
abbrev pub shown_place : List ℕ → List ℕ → ℕ → List ℕ → List ℕ
shown_place file text start what = place_text file (take start text) ++ (what ++ (codes "\n" ++ marked_line text start))

-- a byte in hexadecimal
abbrev pub byte_text : ℕ → List ℕ
byte_text b = codes "0x" ++ (digits 16 false (b / 16) ++ digits 16 false (b % 16))

-- the n-th word of the text of a file is printed with its place, or the byte after the first n
abbrev pub ShowsPlace : List ℕ → ℕ → Bool → List ℕ → List ℕ → Type 0
ShowsPlace file n false printed text = (start : ℕ) × (end : ℕ) × IsWordAt text n start end
    × (printed ≡ shown_place file text start (take (end - start) (drop start text)))
ShowsPlace file n true printed text = (b : ℕ) × (rest : List ℕ) × (drop n text ≡ b ∷ rest) × (printed ≡ shown_place file text n (byte_text b))

-- ---- a text that ends before

-- the text has no such word, or no such byte
abbrev pub HasNoPlace : List ℕ → ℕ → Bool → Type 0
HasNoPlace text n false = HasNoWord text n
HasNoPlace text n true = length text ≤ n

-- where the text of a file ends that has no such word, or no such byte
abbrev pub end_line : List ℕ → List ℕ → ℕ → Bool → List ℕ
end_line file text n false = place_text file (before_word n text) ++ (codes "the words end here, before word " ++ (decimal n ++ codes "\n"))
end_line file text n true = place_text file text ++ (codes "the bytes end here, before byte " ++ (decimal n ++ codes "\n"))

-- the fault that this text of a file ends before what is asked for
abbrev pub IsEndFault : List ℕ → List ℕ → ℕ → Bool → Fault → Type 0
IsEndFault file text n byte fault = (line : String Global) × (string_bytes line ≡ end_line file text n byte) × (fault ≡ Contents (Ends line))

-- why a place is not shown: the text ends before, or memory ran out
abbrev pub IsUnfound : List ℕ → List ℕ → ℕ → Bool → Fault → Type 0
IsUnfound file text n byte fault = (IsEndFault file text n byte fault × HasNoPlace text n byte) ⊎ (fault ≡ Machine NoMemory)
