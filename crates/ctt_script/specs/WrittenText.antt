-- The text of a journal: its words in lines.
use Rattle.std.specs.Prelude.{ℕ, List, [], ◌∷◌, ◌++◌, flat_map, length, codes}
use Rattle.std.specs.Fmt.{decimal}
use Rattle.ctt_line.specs.Lines.{line, words_part}
use Rattle.ctt_problem.specs.Problem.{Problem}
use Rattle.ctt_draft.specs.declared.asked.Asked.{Asked}
use Rattle.ctt_core.specs.declared.journal.JournalEntry.{JournalEntry}
use Rattle.ctt_script.specs.WrittenWords.{call_words, reply_words}

-- words, separated by single blanks
abbrev pub joined : List (List ℕ) → List ℕ
joined [] = []
joined (w ∷ ws) = w ++ words_part ws

-- the lines of a call and its reply
abbrev pub asked_text : Problem → Asked → List ℕ
asked_text i s = line (call_words i s.call) ++ line (reply_words i s.reply)

-- the lines of an entry
abbrev pub entry_text : Problem → JournalEntry → List ℕ
entry_text i e = line (codes "entry" ∷ decimal e.planner ∷ decimal (length e.asked) ∷ []) ++ flat_map (asked_text i) e.asked

-- the lines of a journal
abbrev pub journal_text : Problem → List JournalEntry → List ℕ
journal_text i es = line (codes "journal" ∷ decimal (length es) ∷ []) ++ (flat_map (entry_text i) es ++ line (codes "END." ∷ []))
