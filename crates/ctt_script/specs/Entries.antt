-- Which answers and entries can be written.
use Rattle.std.specs.Prelude.{◌<◌, List, IfSome}
use Rattle.std.specs.List.{AllByRecursion as Each}
use Rattle.ctt_problem.specs.Problem.{Problem, course_count, slot_count}
use Rattle.ctt_edits.specs.Fitting.{ReplyFits, AreFew, IsShortReply}
use Rattle.ctt_edits.specs.declared.row.Row.{Row}
use Rattle.ctt_edits.specs.declared.row.Row.TheVariants.{Course as CourseRow, Slot as SlotRow}
use Rattle.ctt_draft.specs.Drafts.{AskedFits}
use Rattle.ctt_draft.specs.declared.asked.Asked.{Asked}
use Rattle.ctt_core.specs.Entries.{EntryFits}
use Rattle.ctt_core.specs.declared.answer.Answer.{Answer}
use Rattle.ctt_core.specs.declared.answer.Answer.TheVariants.{Replied, Draft, Stale}
use Rattle.ctt_core.specs.declared.journal.JournalEntry.{JournalEntry}

-- the entry has at most 999,999,999 calls, and no list in a reply is longer than that
abbrev pub IsShort : JournalEntry → Type 0
IsShort e = AreFew e.asked × Each (λ (a : Asked). IsShortReply a.reply) e.asked

-- a call with its reply that can be written
abbrev pub IsAsked : Problem → Asked → Type 0
IsAsked i a = AskedFits i a × IsShortReply a.reply

-- an entry that can be written
abbrev pub CanBeWritten : Problem → JournalEntry → Type 0
CanBeWritten i e = EntryFits i e × IsShort e

-- the number of the row is in range for the instance
abbrev pub RowFits : Problem → Row → Type 0
RowFits i (CourseRow c) = c < course_count i
RowFits i (SlotRow s) = s < slot_count i

-- an answer that can be written
abbrev pub AnswerFits : Problem → Answer → Type 0
AnswerFits i (Replied reply) = ReplyFits i reply
AnswerFits i (Draft s) = IfSome s.stale (RowFits i)
AnswerFits i (Stale row) = RowFits i row
AnswerFits i answer = Unit {0}

-- a journal that can be written
pub record IsWritable (i : Problem) (entries : List JournalEntry) : Type 0 where
  pub fit : Each (EntryFits i) entries
  pub few : AreFew entries
  pub short : Each IsShort entries
