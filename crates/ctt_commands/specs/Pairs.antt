-- The text of pairs: lines of an instance and a solution of it, by the names of their files.
use Rattle.std.specs.Prelude.{◌≡◌, ℕ, ◌+◌, ◌==◌, ◌&&◌, ◌||◌, Bool, not, List, [], ◌∷◌, ◌++◌, Option, Some, None, Result, Ok, Err, codes, filter, is_some, map, string_bytes, if◌then◌else◌}
use Rattle.std.specs.Fmt.{decimal}
use Rattle.std.specs.Global.{Global}
use Rattle.std.specs.List.{list_any, slice_split}
use Rattle.std.specs.Str.{bytes_eq, is_utf8}
use Rattle.std.specs.declared.string.String.{String}
use Rattle.ctt_text.specs.Points.{encoding_said}
use Rattle.ctt_text.specs.Words.{words}
use Rattle.ctt_files.specs.declared.fault.ContentsFault.TheVariants.{Pairs}
use Rattle.ctt_files.specs.declared.fault.Fault.{Fault}
use Rattle.ctt_files.specs.declared.fault.Fault.TheVariants.{Contents}
use Rattle.ctt_commands.specs.declared.pairs.Line.{Line}
use Rattle.ctt_commands.specs.declared.pairs.Line.TheVariants as line
use Rattle.ctt_commands.specs.declared.pairs.Pair.{Pair}
use Rattle.ctt_commands.specs.declared.pairs.Wanted.{Wanted}

-- the names of an instance and of a solution
abbrev pub NamePair : Type 0
NamePair = List ℕ × List ℕ

abbrev pub name_pair : Pair → NamePair
name_pair pair = (string_bytes pair.instance, string_bytes pair.solution)

-- ---- the text

-- the pair of a line with these words, or the number of a fault: 1 if a name is not UTF-8, 2 if
-- there are not two words, and 3 if standard input is named
abbrev pub pair_in : List (List ℕ) → Result (List NamePair) ℕ
pair_in [] = Ok []
pair_in (instance ∷ solution ∷ []) = if not (is_utf8 instance && is_utf8 solution) then Err 1
    else (if bytes_eq instance (codes "-") || bytes_eq solution (codes "-") then Err 3
    else Ok ((instance, solution) ∷ []))
pair_in other = Err 2

-- the pair of a line before those of the lines after it; a fault is that of the first line with one
abbrev pub joined_pairs : ℕ → Result (List NamePair) ℕ → Result (List NamePair) (ℕ × ℕ)
    → Result (List NamePair) (ℕ × ℕ)
joined_pairs line (Err fault) others = Err (fault, line)
joined_pairs line (Ok pair) (Err fault) = Err fault
joined_pairs line (Ok pair) (Ok pairs) = Ok (pair ++ pairs)

-- the pairs in lines that are counted from n on, or a fault and the number of its line
abbrev pub pairs_from : ℕ → List (List ℕ) → Result (List NamePair) (ℕ × ℕ)
pairs_from n [] = Ok []
pairs_from n (line ∷ lines) = joined_pairs n (pair_in (words line)) (pairs_from (n + 1) lines)

-- the lines of a text
abbrev pub lines_in : List ℕ → List (List ℕ)
lines_in text = slice_split (λ b. b == 10) text

-- the pairs in a text; one that begins as no list does is refused in its first line
unfoldable pub pairs_in : List ℕ → Result (List NamePair) (ℕ × ℕ)
pairs_in text = if is_some (encoding_said text) then Err (4, 1) else pairs_from 1 (lines_in text)

-- what a line has
abbrev pub line_value : Line → Result (List NamePair) ℕ
line_value line.Blank = Ok []
line_value (line.Pair pair) = Ok (name_pair pair ∷ [])
line_value (line.Fault number) = Err number

-- what is wrong with a line, by the number of the fault
abbrev pub pairs_sentence : ℕ → List ℕ
pairs_sentence number = if number == 1 then codes "a name that is not UTF-8"
    else if number == 2 then codes "expected two words, an instance and a solution of it"
    else codes "a name is that of a file, not of standard input"

-- the line that says where the text of the file of this name is refused, and why
abbrev pub pairs_point : List ℕ → ℕ → ℕ → List ℕ → List ℕ
pairs_point file number at sentence = file ++ (codes ":" ++ (decimal at ++ (codes ":1: P"
    ++ (decimal number ++ (codes ": " ++ (sentence ++ codes "\n"))))))

-- the fault of this number in this line of the file of this name, with what is said of it
abbrev pub IsPairsFault : List ℕ → ℕ → ℕ → List ℕ → Fault → Type 0
IsPairsFault file number at sentence fault = (point : String Global)
    × (string_bytes point ≡ pairs_point file number at sentence)
    × (fault ≡ Contents (Pairs number at point))

-- the fault of a line with this number in the file of this name
abbrev pub IsFaultOfLine : List ℕ → ℕ → List ℕ → Fault → Type 0
IsFaultOfLine file at line fault =
    (number : ℕ) × (pair_in (words line) ≡ Err number) × IsPairsFault file number at (pairs_sentence number) fault

-- the fault of a text with these lines
abbrev pub IsFaultOfLines : List ℕ → List (List ℕ) → Fault → Type 0
IsFaultOfLines file lines fault =
    (number at : ℕ) × (pairs_from 1 lines ≡ Err (number, at)) × IsPairsFault file number at (pairs_sentence number) fault

-- the text of the pairs in the file of this name is refused: for how it begins, or for a line
abbrev pub IsNoPairsOf : List ℕ → List ℕ → Option (List ℕ) → Fault → Type 0
IsNoPairsOf file text (Some said) fault = IsPairsFault file 4 1 said fault
IsNoPairsOf file text None fault = IsFaultOfLines file (lines_in text) fault

abbrev pub IsNoPairs : List ℕ → List ℕ → Fault → Type 0
IsNoPairs file text fault = IsNoPairsOf file text (encoding_said text) fault

-- ---- the pairs by their instances

-- each name once, where it comes first
abbrev pub firsts : List (List ℕ) → List (List ℕ)
firsts [] = []
firsts (name ∷ names) = name ∷ filter (λ other. not (bytes_eq name other)) (firsts names)

-- names with one more at the end, unless it is among them
abbrev pub with_name : List ℕ → List (List ℕ) → List (List ℕ)
with_name name names =
    if list_any (λ other. bytes_eq other name) names then names else names ++ name ∷ []

-- the solutions of the instance with this name
abbrev pub solutions_of : List NamePair → List ℕ → List (List ℕ)
solutions_of pairs name = map (λ pair. pair.1) (filter (λ pair. bytes_eq pair.0 name) pairs)

-- an instance and its solutions
abbrev pub wanted_of : Wanted → List ℕ × List (List ℕ)
wanted_of wanted = (string_bytes wanted.instance, map string_bytes wanted.solutions.items)

-- each instance once, in the order in which they are first named, with its solutions
abbrev pub by_instance : List NamePair → List (List ℕ × List (List ℕ))
by_instance pairs =
    map (λ name. (name, solutions_of pairs name)) (firsts (map (λ pair. pair.0) pairs))
