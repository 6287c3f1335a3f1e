-- Where and why a text is refused: a line of its place, the code of the fault, and a sentence.
use Rattle.std.specs.Prelude.{ℕ, ◌+◌, ◌-◌, ◌*◌, ◌%◌, List, [], ◌∷◌, ◌++◌, Bool, Option, Some, None, chars, codes, encode_utf8, flat_map, nat_le, nat_lt, take, unwrap_or, ◌==◌, ◌&&◌, ◌||◌, if◌then◌else◌}
use Rattle.std.specs.Fmt.{take_chars}
use Rattle.std.specs.Str.{bytes_eq, is_utf8}
use Rattle.ctt_text.specs.Entries.{closure_entry, instance_entry, lecture_entry, pair_entry}
use Rattle.ctt_text.specs.FaultCodes.{barred_at, barred_code, blocked_at, blocked_code, instance_at, instance_code, solution_at, solution_code}
use Rattle.ctt_text.specs.Sections.{fixed_word, limit, nth_word, section_of, stated, unended}
use Rattle.ctt_text.specs.TextPlaces.{before_word, place_text}
use Rattle.ctt_text.specs.Words.{words}
use Rattle.ctt_text.specs.declared.fault.BarredFault.{BarredFault}
use Rattle.ctt_text.specs.declared.fault.BarredFault.TheVariants as barred
use Rattle.ctt_text.specs.declared.fault.BlockedFault.{BlockedFault}
use Rattle.ctt_text.specs.declared.fault.BlockedFault.TheVariants as blocked
use Rattle.ctt_text.specs.declared.fault.ReadFault.{ReadFault}
use Rattle.ctt_text.specs.declared.fault.ReadFault.TheVariants as instance
use Rattle.ctt_text.specs.declared.fault.SolutionFault.{SolutionFault}
use Rattle.ctt_text.specs.declared.fault.SolutionFault.TheVariants as solution

-- a control character
abbrev pub is_control : ℕ → Bool
is_control c = nat_lt c 32 || (nat_le 127 c && nat_lt c 160)

-- a character as it is shown: a question mark for a control character
unfoldable pub printable_char : ℕ → List ℕ
printable_char c = if is_control c then codes "?" else encode_utf8 c

-- characters as they are shown
unfoldable pub printable : List ℕ → List ℕ
printable text = flat_map printable_char (chars text)

-- a word as it is shown: its first 40 characters; nothing of one that is not UTF-8
abbrev pub shown_word : List ℕ → List ℕ
shown_word word = printable (take_chars 40 (if is_utf8 word then word else []))

-- the text begins with a byte order mark
abbrev pub has_byte_mark : List ℕ → Bool
has_byte_mark text = bytes_eq (take 3 text) (239 ∷ 187 ∷ 191 ∷ [])

-- the text begins as one of UTF-16 does
abbrev pub is_utf16 : List ℕ → Bool
is_utf16 text = bytes_eq (take 2 text) (255 ∷ 254 ∷ []) || bytes_eq (take 2 text) (254 ∷ 255 ∷ [])

-- the text begins as one of UTF-32 does
abbrev pub is_utf32 : List ℕ → Bool
is_utf32 text = bytes_eq (take 4 text) (255 ∷ 254 ∷ 0 ∷ 0 ∷ []) || bytes_eq (take 4 text) (0 ∷ 0 ∷ 254 ∷ 255 ∷ [])

-- what is said of a text that begins as one of UTF-32 or of UTF-16 does, of which the first has more
abbrev pub wide_said : List ℕ → Option (List ℕ)
wide_said text = if is_utf32 text then Some (codes "the file is UTF-32, not UTF-8")
    else (if is_utf16 text then Some (codes "the file is UTF-16, not UTF-8") else None)

-- what is said of a text by how it begins
abbrev pub encoding_said : List ℕ → Option (List ℕ)
encoding_said text = if has_byte_mark text then Some (codes "the file begins with a byte order mark") else wide_said text

-- the line of a fault after these bytes
abbrev pub point_line : List ℕ → List ℕ → List ℕ → List ℕ → List ℕ
point_line file front code sentence = place_text file front ++ (code ++ (codes ": " ++ (sentence ++ codes "\n")))

-- a fault of word n; the mark at the beginning of a file is what is wrong with its first word
abbrev pub word_point : List ℕ → List ℕ → List ℕ → ℕ → List ℕ → List ℕ
word_point file text code n sentence = point_line file (before_word n text) code
    (if has_byte_mark text && n == 1 then codes "the file begins with a byte order mark" else sentence)

-- a fault of the byte after the first n
abbrev pub byte_point : List ℕ → List ℕ → List ℕ → ℕ → List ℕ
byte_point file text code n = point_line file (take n text) code
    (unwrap_or (wide_said text) (codes "not UTF-8 from this byte on"))

-- ---- the sentences

-- what is wrong, and the word
abbrev pub about : List ℕ → List (List ℕ) → ℕ → List ℕ
about wrong words n = wrong ++ shown_word (nth_word n words)

-- what is expected, and the word
abbrev pub other_word : List ℕ → List (List ℕ) → ℕ → List ℕ
other_word expected words n = codes "expected " ++ (expected ++ about (codes ", found ") words n)

-- a day, or a period, that there is not
abbrev pub no_day : List (List ℕ) → ℕ → List ℕ
no_day words n = about (codes "no day ") words n ++ codes ": days count from 0"

abbrev pub no_period : List (List ℕ) → ℕ → List ℕ
no_period words n = about (codes "no period ") words n ++ codes ": periods count from 0"

abbrev pub not_number : List (List ℕ) → ℕ → List ℕ
not_number words n = about (codes "not a number up to 999,999,999: ") words n

-- the extended format has another label in its seventh line
abbrev pub is_extended : List (List ℕ) → ℕ → Bool
is_extended words n = n == 13 && bytes_eq (nth_word n words) (codes "Min_Max_Daily_Lectures:")

abbrev pub unexpected : List (List ℕ) → ℕ → List ℕ
unexpected words n = if is_extended words n
    then codes "this is the extended format (.ectt), which is not read"
    else other_word (fixed_word (section_of n words).0 (section_of n words).1) words n

abbrev pub instance_sentence : List (List ℕ) → ReadFault → List ℕ
instance_sentence words (instance.Missing n) = codes "the words end " ++ unended (section_of n words).0 (section_of n words).1
instance_sentence words (instance.Expected n) = unexpected words n
instance_sentence words (instance.BadNumber n) = not_number words n
instance_sentence words (instance.TooLarge n) = about (limit n) words n
instance_sentence words (instance.RepeatedName n) = about (codes "a name that is there already: ") words n
instance_sentence words (instance.UnknownCourse n) = about (codes "no course ") words n
instance_sentence words (instance.DayOut n) = no_day words n
instance_sentence words (instance.PeriodOut n) = no_period words n
instance_sentence words _ = codes "no memory"

abbrev pub solution_sentence : List (List ℕ) → SolutionFault → List ℕ
solution_sentence words (solution.Cut n) = codes "the words end in an entry, which has four"
solution_sentence words (solution.UnknownCourse n) = about (codes "no course ") words n
solution_sentence words (solution.UnknownRoom n) = about (codes "no room ") words n
solution_sentence words (solution.BadNumber n) = not_number words n
solution_sentence words (solution.DayOut n) = no_day words n
solution_sentence words (solution.PeriodOut n) = no_period words n
solution_sentence words (solution.Repeated n) = about (codes "the course has a lecture in this slot already: period ") words n
solution_sentence words _ = codes "no memory"

-- where the words of a side file end that lack word n, if an entry has so many words
abbrev pub side_end : List ℕ → ℕ → List ℕ → List (List ℕ) → ℕ → List ℕ
side_end label len entry words n = if n == 1 then codes "the words end before " ++ label
    else if n == 2 then codes "the words end before the number of entries"
    else if nat_lt (2 + len * stated 2 words) n then codes "the words end before END."
    else if (n - 3) % len == 0 then codes "the words end before " ++ entry
    else codes "the words end in " ++ entry

abbrev pub barred_sentence : List (List ℕ) → BarredFault → List ℕ
barred_sentence words (barred.Missing n) = side_end (codes "Barred:") 2 (codes "a pair, which has two") words n
barred_sentence words (barred.Expected n) = other_word (if n == 1 then codes "Barred:" else codes "END.") words n
barred_sentence words (barred.BadNumber n) = not_number words n
barred_sentence words (barred.TooLarge n) = about (codes "more than 2,000,000 pairs: ") words n
barred_sentence words (barred.UnknownCourse n) = about (codes "no course ") words n
barred_sentence words (barred.UnknownRoom n) = about (codes "no room ") words n
barred_sentence words _ = codes "no memory"

-- the word that closures have there: their label, their end, or the kind of an entry
abbrev pub blocked_word : List (List ℕ) → ℕ → List ℕ
blocked_word words n = if n == 1 then codes "Blocked:"
    else if nat_lt (2 + 4 * stated 2 words) n then codes "END."
    else codes "room, teacher or course"

-- the number of entries is a number, and a day or a period may be * too
abbrev pub not_choice : List (List ℕ) → ℕ → List ℕ
not_choice words n = if n == 2 then not_number words n else about (codes "neither * nor a number up to 999,999,999: ") words n

-- a name that is not one of its kind, which the word before it states
abbrev pub unknown_name : List (List ℕ) → ℕ → List ℕ
unknown_name words n = codes "no " ++ (shown_word (nth_word (n - 1) words) ++ about (codes " ") words n)

abbrev pub blocked_sentence : List (List ℕ) → BlockedFault → List ℕ
blocked_sentence words (blocked.Missing n) = side_end (codes "Blocked:") 4 (codes "an entry, which has four") words n
blocked_sentence words (blocked.Expected n) = other_word (blocked_word words n) words n
blocked_sentence words (blocked.BadNumber n) = not_choice words n
blocked_sentence words (blocked.TooLarge n) = about (codes "more than 2,000,000 entries: ") words n
blocked_sentence words (blocked.UnknownName n) = unknown_name words n
blocked_sentence words (blocked.DayOut n) = no_day words n
blocked_sentence words (blocked.PeriodOut n) = no_period words n
blocked_sentence words _ = codes "no memory"

-- ---- the lines: the entry, what of it, and the sentence

abbrev pub instance_point : List ℕ → List ℕ → ReadFault → List ℕ
instance_point file text (instance.NotText at) = byte_point file text (codes "I1") at
instance_point file text fault = word_point file text (instance_code fault) (instance_at fault) (instance_entry (words text) (instance_at fault) ++ instance_sentence (words text) fault)

abbrev pub solution_point : List ℕ → List ℕ → SolutionFault → List ℕ
solution_point file text (solution.NotText at) = byte_point file text (codes "S1") at
solution_point file text fault = word_point file text (solution_code fault) (solution_at fault) (lecture_entry (solution_at fault) ++ solution_sentence (words text) fault)

abbrev pub barred_point : List ℕ → List ℕ → BarredFault → List ℕ
barred_point file text (barred.NotText at) = byte_point file text (codes "B1") at
barred_point file text fault = word_point file text (barred_code fault) (barred_at fault) (pair_entry (words text) (barred_at fault) ++ barred_sentence (words text) fault)

abbrev pub blocked_point : List ℕ → List ℕ → BlockedFault → List ℕ
blocked_point file text (blocked.NotText at) = byte_point file text (codes "L1") at
blocked_point file text fault = word_point file text (blocked_code fault) (blocked_at fault) (closure_entry (words text) (blocked_at fault) ++ blocked_sentence (words text) fault)
