-- Text as HTML.
use Rattle.std.specs.Prelude.{ℕ, ◌==◌, List, chars, codes, encode_utf8, flat_map, if◌then◌else◌}

-- a character; one that has a meaning in HTML becomes a character reference
unfoldable pub escaped_char : ℕ → List ℕ
escaped_char c = if c == 38 then codes "&amp;"
    else if c == 60 then codes "&lt;"
    else if c == 62 then codes "&gt;"
    else if c == 34 then codes "&quot;"
    else if c == 39 then codes "&#39;"
    else encode_utf8 c

-- a text, escaped character by character
unfoldable pub escaped : List ℕ → List ℕ
escaped text = flat_map escaped_char (chars text)
