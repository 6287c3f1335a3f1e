-- The audit of a journal: whether its replies are those that its drafts get when they are rerun one
-- after another, and the first reply that differs.
use Rattle.std.specs.Prelude.{ℕ, ◌+◌, ◌≡◌, ◌≢◌, List, ◌∷◌, ◌++◌, length, Option, Some, None, Ok, Err}
use Rattle.ctt_problem.specs.Problem.{Problem}
use Rattle.ctt_problem.specs.declared.placed.Placed.{Placed}
use Rattle.ctt_edits.specs.Calls.{reply}
use Rattle.ctt_edits.specs.Openings.{opening}
use Rattle.ctt_draft.specs.Drafts.{calls_of, replies_in, replies, whole}
use Rattle.ctt_draft.specs.declared.asked.Asked.{Asked}
use Rattle.ctt_core.specs.Runs.{after, Legal}
use Rattle.ctt_core.specs.declared.auditing.Verdict.{Verdict}
use Rattle.ctt_core.specs.declared.auditing.Verdict.TheVariants.{Agrees, BadOpening, Differs}
use Rattle.ctt_core.specs.declared.auditing.NoList.{NoList}
use Rattle.ctt_core.specs.declared.auditing.NoList.TheVariants.{Found, NoMemory}
use Rattle.ctt_core.specs.declared.journal.JournalEntry.{JournalEntry}
use Rattle.ctt_problem.specs.Timetable.{IsTimetable}

-- of calls made on t, the one with this number, counted from 1, is the first whose recorded reply
-- differs
pub record DiffersIn (i : Problem) (t : List Placed) (asked : List Asked) (number : ℕ) : Type 0 where
  pub earlier : List Asked
  pub this : Asked
  pub later : List Asked
  pub split : asked ≡ earlier ++ this ∷ later
  pub counted : number ≡ length earlier + 1
  pub told : replies_in earlier ≡ replies i t (calls_of earlier)
  pub other : this.reply ≡ reply i (whole i t (calls_of earlier)) this.call → ⊥

-- the entries before this one, counted from 1, are legal, and this call is the first in it whose
-- recorded reply differs
pub record DiffersAt (i : Problem) (t : List Placed) (h : List JournalEntry) (entry call : ℕ) : Type 0 where
  pub earlier : List JournalEntry
  pub this : JournalEntry
  pub later : List JournalEntry
  pub split : h ≡ earlier ++ this ∷ later
  pub counted : entry ≡ length earlier + 1
  pub legal : Legal i t earlier
  pub differs : DiffersIn i (after i t earlier) this.asked call

-- the result of making calls on t: all recorded replies agree and the calls leave u, or the first
-- call whose recorded reply differs has this number
abbrev pub Replayed : Problem → List Placed → List Placed → List Asked → Option ℕ → Type 0
Replayed i t u asked None = (replies_in asked ≡ replies i t (calls_of asked)) × (u ≡ whole i t (calls_of asked))
Replayed i t u asked (Some number) = DiffersIn i t asked number

-- the verdict on the entries h, run on the timetable t
abbrev pub Finds : Problem → List Placed → List JournalEntry → Verdict → Type 0
Finds i t h Agrees = Legal i t h
Finds i t h (BadOpening at f) = ⊥
Finds i t h (Differs entry call) = DiffersAt i t h entry call

-- the lectures make a timetable, on which the entries have this verdict
pub record Opens (i : Problem) (ls : List Placed) (h : List JournalEntry) (verdict : Verdict) : Type 0 where
  pub t0 : List Placed
  pub opens : opening i ls ≡ Ok t0
  pub finds : Finds i t0 h verdict

-- the verdict of an audit of the entries h on the opening with these lectures
abbrev pub IsVerdict : Problem → List Placed → List JournalEntry → Verdict → Type 0
IsVerdict i ls h Agrees = Opens i ls h Agrees
IsVerdict i ls h (BadOpening at f) = opening i ls ≡ Err (at, f)
IsVerdict i ls h (Differs entry call) = Opens i ls h (Differs entry call)

-- the lectures make a timetable on which the entries are legal and leave this list
pub record LeavesList (i : Problem) (ls : List Placed) (h : List JournalEntry) (list : List Placed) : Type 0 where
  pub t0 : List Placed
  pub opens : opening i ls ≡ Ok t0
  pub legal : Legal i t0 h
  pub is_left : list ≡ after i t0 h
  pub is_timetable : IsTimetable i list

-- why the entries leave no timetable on the opening with these lectures: the audit has this
-- verdict, which is not `Agrees`, or memory runs out
abbrev pub IsNoList : Problem → List Placed → List JournalEntry → NoList → Type 0
IsNoList i ls h (Found verdict) = IsVerdict i ls h verdict × (verdict ≢ Agrees)
IsNoList i ls h NoMemory = Unit {0}
