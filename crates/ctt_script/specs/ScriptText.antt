-- The items of a script: one for each line that has words.
use Rattle.std.specs.Prelude.{ℕ, List, [], ◌∷◌, Bool, true, false, map, filter, ◌==◌, Option, Some, None, Result, Ok, Err, if◌then◌else◌}
use Rattle.std.specs.List.{slice_split}
use Rattle.std.specs.Str.{is_utf8}
use Rattle.ctt_text.specs.Left.{Left}
use Rattle.ctt_text.specs.Words.{words}
use Rattle.ctt_problem.specs.Problem.{Problem}
use Rattle.ctt_text.specs.Forms.{Form, read}
use Rattle.ctt_script.specs.declared.journal_fault.JournalFault.{JournalFault}
use Rattle.ctt_script.specs.declared.journal_fault.JournalFault.TheVariants.{NotText, Missing, BadWord, NoMemory}
use Rattle.ctt_core.specs.declared.event.Event.{Event}
use Rattle.ctt_script.specs.JournalWords.{missing_word}
use Rattle.ctt_script.specs.Events.{event_form, own_form}

-- a value, if no word is left after it
abbrev pub if_none_left : {A : Type 0} → A → List (List ℕ) → Option A
if_none_left a [] = Some a
if_none_left a (word ∷ words) = None

-- what was parsed, if no word is left
abbrev pub all_parsed : {A : Type 0} → Result (A × Left) JournalFault → Option A
all_parsed (Ok x) = if_none_left x.0 x.1.words
all_parsed (Err e) = None

-- the number of the word at which parsing stopped
abbrev pub word_of_fault : JournalFault → ℕ
word_of_fault (NotText k) = k
word_of_fault (Missing k) = k
word_of_fault (BadWord k) = k
word_of_fault NoMemory = 0

-- a value, or the number of the first word that is left after it
abbrev pub or_left : {A : Type 0} → A → List (List ℕ) → ℕ → Result A ℕ
or_left a [] next = Ok a
or_left a (word ∷ words) next = Err next

-- what was parsed, or the number of the first word that is not allowed: the first that is left, or
-- the one at which parsing stopped
abbrev pub whole_or_word : {A : Type 0} → Result (A × Left) JournalFault → Result A ℕ
whole_or_word (Ok x) = or_left x.0 x.1.words x.1.next
whole_or_word (Err e) = Err (word_of_fault e)

-- the words as an event in the own script of planner p, or the number of the first word that is not
-- allowed
abbrev pub own_event : Problem → ℕ → List (List ℕ) → Result Event ℕ
own_event i p ws = whole_or_word (read missing_word (own_form i p) ws 1)

-- the words as an event by this grammar; none if they do not match it
abbrev pub asked_by : Form JournalFault Event → List (List ℕ) → Option Event
asked_by form words = all_parsed (read missing_word form words 1)

-- the line as an event by this grammar; none for a bad line, such as one that is not UTF-8
abbrev pub item_by : Form JournalFault Event → List ℕ → Option Event
item_by form line = if is_utf8 line then asked_by form (words line) else None

-- the line as an event of a script
abbrev pub item : Problem → List ℕ → Option Event
item i line = item_by (event_form i) line

-- the line as an event of the own script of planner p
abbrev pub own_item : Problem → ℕ → List ℕ → Option Event
own_item i p line = item_by (own_form i p) line

-- the line has a word
abbrev pub has_words : List ℕ → Bool
has_words line = some (words line)
  where
    some : List (List ℕ) → Bool
    some [] = false
    some (word ∷ words) = true

-- lines end at byte 10
abbrev pub lines_of : List ℕ → List (List ℕ)
lines_of text = slice_split (λ b. b == 10) text

-- the items of lines: none for a line without words
abbrev pub items_of : Problem → List (List ℕ) → List (Option Event)
items_of i lines = map (item i) (filter has_words lines)

-- the items of a script
abbrev pub script : Problem → List ℕ → List (Option Event)
script i text = items_of i (lines_of text)
