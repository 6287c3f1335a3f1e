-- The grammar of journals.
use Rattle.std.specs.Prelude.{List, codes}
use Rattle.ctt_problem.specs.Problem.{Problem}
use Rattle.ctt_text.specs.Forms.{Form, done, ◌>>=◌, list_of}
use Rattle.ctt_script.specs.declared.journal_fault.JournalFault.{JournalFault}
use Rattle.ctt_script.specs.Amounts.{number_below}
use Rattle.ctt_draft.specs.declared.asked.Asked.{Asked}
use Rattle.ctt_core.specs.declared.journal.JournalEntry.{JournalEntry}
use Rattle.ctt_script.specs.JournalWords.{word, label}
use Rattle.ctt_script.specs.Calls.{call_form}
use Rattle.ctt_script.specs.Replies.{reply_form, count}

-- a call and its reply
unfoldable pub asked_form : Problem → Form JournalFault Asked
asked_form i = do
  c ← call_form i
  r ← reply_form i
  done (record { call = c; reply = r })

-- an entry: `entry`, a planner, a count, and that many calls with their replies
unfoldable pub entry_form : Problem → Form JournalFault JournalEntry
entry_form i = do
  start ← label (codes "entry")
  p ← word (number_below 1000) 0
  n ← count
  calls ← list_of (asked_form i) n
  done (record { planner = p; asked = calls })

-- a journal: `journal`, a count, that many entries, and `END.`
unfoldable pub journal_form : Problem → Form JournalFault (List JournalEntry)
journal_form i = do
  start ← label (codes "journal")
  n ← count
  entries ← list_of (entry_form i) n
  end ← label (codes "END.")
  done entries
