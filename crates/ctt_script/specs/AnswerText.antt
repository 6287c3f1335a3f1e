-- The answers to a script, one line for each of its items.
use Rattle.std.specs.Prelude.{ℕ, List, [], ◌∷◌, ◌++◌, Option, Some, None, codes}
use Rattle.std.specs.Fmt.{decimal}
use Rattle.ctt_problem.specs.Problem.{Problem}
use Rattle.ctt_problem.specs.declared.placed.Placed.{Placed}
use Rattle.ctt_edits.specs.declared.row.Row.{Row}
use Rattle.ctt_edits.specs.declared.row.Row.TheVariants.{Course as CourseRow, Slot as SlotRow}
use Rattle.ctt_core.specs.Runs.{Turn, reference_answer}
use Rattle.ctt_core.specs.declared.answer.Answer.{Answer}
use Rattle.ctt_core.specs.declared.answer.Answer.TheVariants.{Opened, AlreadyOpen, NoDraft, Replied, Draft, Committed, Refreshed, Stale, Abandoned, NoMemory}
use Rattle.ctt_core.specs.declared.event.Event.{Event}
use Rattle.ctt_core.specs.declared.draft_status.DraftStatus.{DraftStatus}
use Rattle.ctt_script.specs.ScriptText.{script}
use Rattle.ctt_line.specs.Lines.{line}
use Rattle.ctt_script.specs.WrittenWords.{course_word, day_word, period_word, reply_words}

-- a row: `course` and its name, or `slot`, its day and its period
abbrev pub row_words : Problem → Row → List (List ℕ)
row_words i (CourseRow c) = codes "course" ∷ course_word i c ∷ []
row_words i (SlotRow s) = codes "slot" ∷ day_word i s ∷ period_word i s ∷ []

-- `fresh`, or `stale` and the row that has changed
abbrev pub freshness_words : Problem → Option Row → List (List ℕ)
freshness_words i None = codes "fresh" ∷ []
freshness_words i (Some row) = codes "stale" ∷ row_words i row

-- the status of a draft
abbrev pub status_words : Problem → DraftStatus → List (List ℕ)
status_words i s = codes "draft" ∷ decimal s.edits ∷ decimal s.behind ∷ freshness_words i s.stale

-- the words of an answer
abbrev pub answer_words : Problem → Answer → List (List ℕ)
answer_words i Opened = codes "opened" ∷ []
answer_words i AlreadyOpen = codes "already" ∷ codes "open" ∷ []
answer_words i NoDraft = codes "no" ∷ codes "draft" ∷ []
answer_words i (Replied r) = reply_words i r
answer_words i (Draft s) = status_words i s
answer_words i (Committed n) = codes "committed" ∷ decimal n ∷ []
answer_words i (Stale row) = codes "stale" ∷ row_words i row
answer_words i Refreshed = codes "refreshed" ∷ []
answer_words i Abandoned = codes "abandoned" ∷ []
answer_words i NoMemory = codes "no" ∷ codes "memory" ∷ []

-- the answer to a line that is not an event
abbrev pub bad_line : List ℕ
bad_line = line (codes "bad" ∷ codes "line" ∷ [])

-- the turn in which the reference desk answers this event after the turns `past`
abbrev pub next_turn : Problem → List Placed → List Turn → Event → Turn
next_turn i t0 past event = record { event = event; answer = reference_answer i t0 past event }

-- the answers to these items after the run `past`
abbrev pub answers_after : Problem → List Placed → List Turn → List (Option Event) → List ℕ
answers_after i t0 past [] = []
answers_after i t0 past (None ∷ items) = bad_line ++ answers_after i t0 past items
answers_after i t0 past (Some event ∷ items) = line (answer_words i (reference_answer i t0 past event)) ++ answers_after i t0 (next_turn i t0 past event ∷ past) items

-- the run `past`, continued by the events of these items
abbrev pub run_after : Problem → List Placed → List Turn → List (Option Event) → List Turn
run_after i t0 past [] = past
run_after i t0 past (None ∷ items) = run_after i t0 past items
run_after i t0 past (Some event ∷ items) = run_after i t0 (next_turn i t0 past event ∷ past) items

-- the answers to a script, from the opening timetable on
abbrev pub answer_text : Problem → List Placed → List ℕ → List ℕ
answer_text i t0 text = answers_after i t0 [] (script i text)

-- the run of a script: its events with their answers, the newest first
abbrev pub script_run : Problem → List Placed → List ℕ → List Turn
script_run i t0 text = run_after i t0 [] (script i text)
