-- The single words of the grammar of journals. Each word that is not allowed has the same fault.
use Rattle.std.specs.Prelude.{ℕ, List, Bool, true, false, Option, Some, None, Result, if◌then◌else◌}
use Rattle.std.specs.Option.{option_map}
use Rattle.std.specs.Str.{bytes_eq}
use Rattle.ctt_text.specs.Left.{Left}
use Rattle.ctt_text.specs.Forms.{Form}
use Rattle.ctt_text.specs.Places.{known, known_name, fixed}
use Rattle.ctt_text.specs.Reading.{Gives, Reads, reading}
use Rattle.ctt_script.specs.declared.journal_fault.JournalFault.{JournalFault}
use Rattle.ctt_script.specs.declared.journal_fault.JournalFault.TheVariants.{Missing, BadWord, NoMemory}

-- one word, parsed to its meaning; a word without a meaning is not allowed
abbrev pub word : {A : Type 0} → (List ℕ → Option A) → A → Form JournalFault A
word meaning otherwise = known BadWord meaning otherwise

-- `Some None` for this mark, or else what the word means
abbrev pub mark_or : {A : Type 0} → List ℕ → (List ℕ → Option A) → List ℕ → Option (Option A)
mark_or mark meaning w = if bytes_eq w mark then Some None else option_map Some (meaning w)

-- one of these names, parsed to its position
abbrev pub name : List (List ℕ) → Form JournalFault ℕ
name names = known_name BadWord names

-- a fixed word
abbrev pub label : List ℕ → Form JournalFault Unit
label text = fixed BadWord text

-- the fault of a missing word
abbrev pub missing_word : ℕ → JournalFault
missing_word k = Missing k

-- the fault is that memory ran out
abbrev pub journal_wants_memory : JournalFault → Bool
journal_wants_memory NoMemory = true
journal_wants_memory _ = false

-- parsing the rest of a journal's text
abbrev pub parses : {A : Type 0} → Form JournalFault A → Left → Result (A × Left) JournalFault
parses form left = reading missing_word form left

-- A parser returned what the grammar of its part of the text gives, unless memory ran out.
abbrev pub GivesJournal : {X Y : Type 0} → (X → Y) → Result X JournalFault → Result Y JournalFault → Type 0
GivesJournal view result read = Gives journal_wants_memory view result read

-- A parser that allocates nothing returned exactly what the grammar gives, its fault included.
abbrev pub IsRead : {X Y : Type 0} → (X → Y) → Result X JournalFault → Result Y JournalFault → Type 0
IsRead view result read = Reads view result read
