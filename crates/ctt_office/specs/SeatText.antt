-- What a line of a seat asks for.
use Rattle.std.specs.Prelude.{ℕ, ◌<◌, List, [], ◌∷◌, codes, length, nat_le, Option, Some, None, Result, Ok, Err, if◌then◌else◌}
use Rattle.std.specs.Str.{bytes_eq, is_utf8}
use Rattle.ctt_problem.specs.Problem.{Problem}
use Rattle.ctt_text.specs.Words.{words}
use Rattle.ctt_core.specs.Runs.{EventFits}
use Rattle.ctt_core.specs.declared.event.Event.{Event}
use Rattle.ctt_script.specs.ScriptText.{own_event}
use Rattle.ctt_office.specs.BadWords.{bad_word, first_untext}
use Rattle.ctt_office.specs.declared.seat_line.Alone.{Alone}
use Rattle.ctt_office.specs.declared.seat_line.Alone.TheVariants as alone
use Rattle.ctt_office.specs.declared.seat_line.SeatLine.{SeatLine}
use Rattle.ctt_office.specs.declared.seat_line.SeatLine.TheVariants.{Bad, Blank, Help, Leave, Redo, Step, TooLong, Undo}

-- the request that a word is, if it is one
unfoldable pub one_word_request : List ℕ → Option Alone
one_word_request word =
    if bytes_eq word (codes "leave") then Some alone.Leave
    else (if bytes_eq word (codes "help") then Some alone.Help
    else (if bytes_eq word (codes "redo") then Some alone.Redo
    else (if bytes_eq word (codes "undo") then Some alone.Undo else None)))

-- what a line of this one word asks for
abbrev pub seat_line_of : Alone → SeatLine
seat_line_of alone.Leave = Leave
seat_line_of alone.Help = Help
seat_line_of alone.Redo = Redo
seat_line_of alone.Undo = Undo

-- the step that was parsed from these words, or the first wrong word
abbrev pub step_line : List (List ℕ) → Result Event ℕ → SeatLine
step_line ws (Ok event) = Step event
step_line ws (Err at) = Bad (bad_word at ws)

-- what the word w and those after it ask for: if w is a request it must be alone, and else they are
-- a step
abbrev pub words_behind : Problem → ℕ → Option Alone → List ℕ → List (List ℕ) → SeatLine
words_behind i p None w ws = step_line (w ∷ ws) (own_event i p (w ∷ ws))
words_behind i p (Some a) w [] = seat_line_of a
words_behind i p (Some a) w (v ∷ ws) = Bad (bad_word 2 (w ∷ v ∷ ws))

-- what words ask planner p for; no words are a blank line
abbrev pub words_line : Problem → ℕ → List (List ℕ) → SeatLine
words_line i p [] = Blank
words_line i p (w ∷ ws) = words_behind i p (one_word_request w) w ws

-- what a line of planner p asks for, if it is not too long
abbrev pub seat_line : Problem → ℕ → List ℕ → SeatLine
seat_line i p line = if is_utf8 line then words_line i p (words line) else Bad (record { at = first_untext 1 (words line); word = [] })

-- the same for a line of any length
abbrev pub asked_by_line : Problem → ℕ → List ℕ → SeatLine
asked_by_line i p line = if nat_le (length line) 65536 then seat_line i p line else TooLong

-- what a line asks for fits planner p of any desk that has that planner
abbrev pub LineFits : Problem → ℕ → SeatLine → Type 0
LineFits i p Blank = Unit {0}
LineFits i p Leave = Unit {0}
LineFits i p Help = Unit {0}
LineFits i p Redo = Unit {0}
LineFits i p Undo = Unit {0}
LineFits i p (Bad word) = Unit {0}
LineFits i p TooLong = Unit {0}
LineFits i p (Step event) = (planners : ℕ) → p < planners → EventFits i planners event
