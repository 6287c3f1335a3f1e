-- The whole entries at the beginning of minutes.
use Rattle.std.specs.Prelude.{ℕ, ◌≡◌, ◌≤◌, ◌-◌, ◌⊎◌, ◌||◌, ◌==◌, Bool, true, false, List, [], ◌∷◌, ◌++◌, Option, Some, None, Result, Ok, Err, drop, length, take}
use Rattle.std.specs.List.{AllByRecursion as Each}
use Rattle.std.specs.Str.{IsUtf8}
use Rattle.std.specs.Str.Lossy.{utf8_valid_len}
use Rattle.ctt_text.specs.Left.{Left}
use Rattle.ctt_problem.specs.Problem.{Problem}
use Rattle.ctt_text.specs.Reading.{reading}
use Rattle.ctt_text.specs.TextPlaces.{before_word}
use Rattle.ctt_text.specs.Words.{words}
use Rattle.ctt_core.specs.declared.journal.JournalEntry.{JournalEntry}
use Rattle.ctt_script.specs.Journals.{entry_form}
use Rattle.ctt_script.specs.JournalWords.{missing_word}
use Rattle.ctt_script.specs.declared.journal_fault.JournalFault.{JournalFault}
use Rattle.ctt_script.specs.declared.journal_fault.JournalFault.TheVariants.{BadWord, Missing, NoMemory, NotText}
use Rattle.ctt_log.specs.Blocks.{AreBlocks}

-- none of the bytes is a newline
abbrev pub HasNoNewline : List ℕ → Type 0
HasNoNewline bytes = Each (λ b. (b == 10) ≡ false) bytes

-- the bytes are whole lines: they are empty or end with a newline
abbrev pub EndsLine : List ℕ → Type 0
EndsLine bytes = (bytes ≡ []) ⊎ ((front : List ℕ) × (bytes ≡ front ++ 10 ∷ []))

-- these entries are parsed one after another, and then `rest` is left
abbrev pub AreEntries : Problem → Left → List JournalEntry → Left → Type 0
AreEntries i left entries rest = AreBlocks missing_word (entry_form i) left entries rest

-- no word is left
abbrev pub IsAllRead : Left → Type 0
IsAllRead rest = rest.words ≡ []

-- parsing an entry fails since a word is missing
abbrev pub LacksWord : Problem → Left → Type 0
LacksWord i rest = (k : ℕ) × (reading missing_word (entry_form i) rest ≡ Err (Missing k))

-- what follows the entries: nothing, or, if the flag is set, an entry that lacks a word
abbrev pub IsTail : Problem → Left → Bool → Type 0
IsTail i rest false = IsAllRead rest
IsTail i rest true = LacksWord i rest

-- the fault of the entry that begins there: a wrong word, or that memory ran out, which needs no
-- cause
abbrev pub IsEntryFault : Problem → Left → JournalFault → Type 0
IsEntryFault i rest (BadWord k) = reading missing_word (entry_form i) rest ≡ Err (BadWord k)
IsEntryFault i rest NoMemory = Unit {0}
IsEntryFault i rest (Missing k) = ⊥
IsEntryFault i rest (NotText byte) = ⊥

-- what follows the entries: nothing, or an entry that begins with this word and lacks a word
abbrev pub IsStop : Problem → Left → Option ℕ → Type 0
IsStop i rest None = IsAllRead rest
IsStop i rest (Some n) = LacksWord i rest × (rest.next ≡ n)

-- the entries were parsed as far as they are whole, or up to a fault
abbrev pub IsReadWhole : Problem → Left → Result (Option ℕ) JournalFault → List JournalEntry → Type 0
IsReadWhole i left (Ok lacks) entries = (rest : Left) × AreEntries i left entries rest × IsStop i rest lacks
IsReadWhole i left (Err fault) entries = (rest : Left) × AreEntries i left entries rest × IsEntryFault i rest fault

-- the list is not empty
abbrev pub has_byte : List ℕ → Bool
has_byte [] = false
has_byte (b ∷ bs) = true

-- these entries are parsed from whole lines, and then follows nothing, or an entry that lacks a
-- word
pub record IsReadOf (i : Problem) (lines : List ℕ) (entries : List JournalEntry) (lacks : Bool) : Type 0 where
  pub rest : Left
  pub reads_them : AreEntries i (record { words = words lines; next = 1 }) entries rest
  pub stops : IsTail i rest lacks

-- the text begins with whole lines, from which these entries are parsed; it is torn if an entry
-- that lacks a word follows them, or if bytes without a newline follow the lines
pub record IsRecovered (i : Problem) (text : List ℕ) (entries : List JournalEntry) (torn : Bool) : Type 0 where
  pub lines : List ℕ
  pub tail : List ℕ
  pub all : text ≡ lines ++ tail
  pub ends : EndsLine lines
  pub unended : HasNoNewline tail
  pub lacks : Bool
  pub reads_them : IsReadOf i lines entries lacks
  pub torn_is : torn ≡ lacks || has_byte tail

-- the cause of a fault in whole lines that are UTF-8: the entry after the whole ones has it
abbrev pub IsLinesFault : Problem → List ℕ → JournalFault → Type 0
IsLinesFault i lines fault = (entries : List JournalEntry) × (rest : Left) × AreEntries i (record { words = words lines; next = 1 }) entries rest × IsEntryFault i rest fault

-- the cause of a fault in minutes: their whole lines are not UTF-8, or have a fault
abbrev pub IsMinutesFault : Problem → List ℕ → JournalFault → Type 0
IsMinutesFault i text fault = (lines tail : List ℕ) × (text ≡ lines ++ tail) × EndsLine lines × HasNoNewline tail × ((¬ IsUtf8 lines × (fault ≡ NotText (utf8_valid_len lines))) ⊎ IsLinesFault i lines fault)

-- ---- the byte at which what is torn begins

-- the line in which word n stands, or would, begins at byte `at`
pub record BeginsLineOf (lines : List ℕ) (n at : ℕ) : Type 0 where
  pub within : at ≤ length lines
  pub ends : EndsLine (take at lines)
  pub unended : HasNoNewline (drop at (before_word n lines))

-- the words before byte `at` are those before word n
abbrev pub HasWordsBefore : List ℕ → ℕ → ℕ → Type 0
HasWordsBefore lines n at = length (words (take at lines)) ≡ n - 1

-- an incomplete entry begins with word n: no other stands in the line that begins at byte `at`; or
-- a whole one ends in its line, and `at` is the byte of the word
abbrev pub IsTornPlace : List ℕ → ℕ → ℕ → Type 0
IsTornPlace lines n at = (BeginsLineOf lines n at × HasWordsBefore lines n at)
    ⊎ ((at ≡ length (before_word n lines)) × ((line : ℕ) × BeginsLineOf lines n line × ¬ HasWordsBefore lines n line))

-- what is torn begins there: the entry that lacks a word, or what follows the whole lines
abbrev pub IsTornAfter : List ℕ → Option ℕ → ℕ → Type 0
IsTornAfter lines (Some n) at = IsTornPlace lines n at
IsTornAfter lines None at = at ≡ length lines

-- what is torn after these entries of whole lines begins at this byte
pub record IsTornIn (i : Problem) (lines : List ℕ) (entries : List JournalEntry) (at : ℕ) : Type 0 where
  pub lacks : Option ℕ
  pub rest : Left
  pub reads_them : AreEntries i (record { words = words lines; next = 1 }) entries rest
  pub stops : IsStop i rest lacks
  pub torn : IsTornAfter lines lacks at

-- what is torn after these entries of a text begins at this byte of the text
pub record IsTornAt (i : Problem) (text : List ℕ) (entries : List JournalEntry) (at : ℕ) : Type 0 where
  pub lines : List ℕ
  pub tail : List ℕ
  pub all : text ≡ lines ++ tail
  pub ends : EndsLine lines
  pub unended : HasNoNewline tail
  pub torn : IsTornIn i lines entries at

-- a whole entry ends in the line in which an incomplete one begins, at byte `at`
abbrev pub SharesLine : List ℕ → ℕ → Type 0
SharesLine lines at = (n line : ℕ) × (at ≡ length (before_word n lines)) × BeginsLineOf lines n line × ¬ HasWordsBefore lines n line

-- a text that is cut where what is torn begins has the same entries, and nothing is torn, unless a
-- whole entry ends in the line in which the torn one begins
abbrev pub CutLosesNothing : Type 0
CutLosesNothing = (i : Problem) (text : List ℕ) (entries : List JournalEntry) (at : ℕ)
    → (torn : IsTornAt i text entries at) → IsRecovered i (take at text) entries false ⊎ SharesLine torn.lines at
