-- What contracts see of planners and their drafts.
use Rattle.std.specs.Prelude.{ℕ, zero, suc, ◌+◌, ◌≡◌, ◌≢◌, ◌<◌, ◌⊎◌, List, [], ◌∷◌, ◌++◌, length, take, None, Some}
use mathlib.Core.List.{IsPrefix}
use Rattle.ctt_problem.specs.Problem.{Problem}
use Rattle.ctt_problem.specs.declared.placed.Placed.{Placed}
use Rattle.ctt_edits.specs.Looks.{shown}
use Rattle.ctt_edits.specs.declared.call.Call.{Call}
use Rattle.ctt_edits.specs.declared.looks.Look.{Look}
use Rattle.ctt_edits.specs.declared.reply.Reply.{Reply}
use Rattle.ctt_edits.specs.declared.row.Row.{Row}
use Rattle.ctt_draft.specs.Drafts.{calls_of, whole, changes, stale}
use Rattle.ctt_draft.specs.declared.asked.Asked.{Asked}
use Rattle.ctt_core.specs.Runs.{after, Legal}
use Rattle.ctt_core.specs.declared.journal.JournalEntry.{JournalEntry}
use Rattle.ctt_core.specs.declared.draft_status.DraftStatus.{DraftStatus}
use Rattle.ctt_desk.specs.Histories.{own, entry_of}

-- a planner: the number, how many drafts he committed, and the front, the history that he has seen
pub record PlannerValue : Type 0 where
  pub number : ℕ
  pub committed : ℕ
  pub front : List JournalEntry

-- planner n, who has committed and seen nothing
abbrev pub new_planner : ℕ → PlannerValue
new_planner n = record { number = n; committed = 0; front = [] }

-- planners 0 to n - 1, in order, who have committed and seen nothing
abbrev pub new_planners : ℕ → List PlannerValue
new_planners zero = []
new_planners (suc n) = new_planners n ++ new_planner n ∷ []

-- the planner with one more commit
abbrev pub committed_more : PlannerValue → PlannerValue
committed_more p = record { number = p.number; committed = p.committed + 1; front = p.front }

-- the planner with the front f
abbrev pub seen_up_to : PlannerValue → List JournalEntry → PlannerValue
seen_up_to p f = record { number = p.number; committed = p.committed; front = f }

-- the planner p is now q, whose front is legal and begins with that of p
pub record Grows (i : Problem) (opening : List Placed) (p q : PlannerValue) : Type 0 where
  pub number : q.number ≡ p.number
  pub committed : q.committed ≡ p.committed
  pub begins : IsPrefix p.front q.front
  pub legal : Legal i opening q.front

-- a planner with an open draft: the base of the draft, the history that led to the base, and the
-- calls with their replies
pub record DraftingValue : Type 0 where
  pub planner : PlannerValue
  pub since : List JournalEntry
  pub base : List Placed
  pub asked : List Asked

-- the base after the calls of the draft
abbrev pub present_of : Problem → DraftingValue → List Placed
present_of i d = whole i d.base (calls_of d.asked)

-- the draft with one more call
abbrev pub asked_also : DraftingValue → Call → Reply → DraftingValue
asked_also d call told = record d { asked = d.asked ++ record { call = call; reply = told } ∷ [] }

-- the planner p has opened the draft d, which has no calls yet and whose base is the opening after
-- all that he has now seen
pub record IsOpen (i : Problem) (opening : List Placed) (p : PlannerValue) (d : DraftingValue) : Type 0 where
  pub planner : Grows i opening p d.planner
  pub since : d.since ≡ d.planner.front
  pub base : d.base ≡ after i opening d.planner.front
  pub asked : d.asked ≡ []

-- the planner p is now q, and the look is answered on the opening after all that q has seen
pub record IsViewed (i : Problem) (opening : List Placed) (look : Look) (p q : PlannerValue) (told : Reply) : Type 0 where
  pub planner : Grows i opening p q
  pub tells : told ≡ shown i (after i opening q.front) look

-- the draft d was refreshed and is now e: its base is the opening after all that its planner has
-- now seen, no row that it read differs there, and its calls are unchanged
pub record IsRefreshed (i : Problem) (opening : List Placed) (d e : DraftingValue) : Type 0 where
  pub planner : Grows i opening d.planner e.planner
  pub fresh : stale i d.base (after i opening e.planner.front) (calls_of d.asked) ≡ None
  pub since : e.since ≡ e.planner.front
  pub base : e.base ≡ after i opening e.planner.front
  pub asked : e.asked ≡ d.asked

-- the draft d is now e, with the same calls, the same base and the same history that led to it
pub record IsSameDraft (d e : DraftingValue) : Type 0 where
  pub since : e.since ≡ d.since
  pub base : e.base ≡ d.base
  pub asked : e.asked ≡ d.asked

-- the status of the draft d, which is now e: how many edits were accepted in it, how many drafts
-- its planner has seen since its base, and the least row that it read and that differs after all
-- that he has seen
pub record IsStatus (i : Problem) (opening : List Placed) (d e : DraftingValue) (s : DraftStatus) : Type 0 where
  pub planner : Grows i opening d.planner e.planner
  pub edits : s.edits ≡ length (changes i d.base (calls_of d.asked))
  pub behind : length d.since + s.behind ≡ length e.planner.front
  pub differs : s.stale ≡ stale i d.base (after i opening e.planner.front) (calls_of d.asked)

-- the draft d was accepted: its planner is now q, and the receipt's history is f
pub record IsAccepted (i : Problem) (opening : List Placed) (d : DraftingValue) (q : PlannerValue) (f : List JournalEntry) : Type 0 where
  pub legal : Legal i opening f
  -- what others committed after the planner's front
  pub between : List JournalEntry
  -- f begins with the planner's front, and ends with this draft
  pub ends : f ≡ (d.planner.front ++ between) ++ entry_of d.planner.number d.asked ∷ []
  -- no row that the draft read differs after the history before it
  pub fresh : stale i d.base (after i opening (d.planner.front ++ between)) (calls_of d.asked) ≡ None
  -- the planner's drafts in f are those that he had committed, and then this one
  pub his : own d.planner.number f ≡ take d.planner.committed (own d.planner.number d.planner.front) ++ entry_of d.planner.number d.asked ∷ []
  pub counted : length (own d.planner.number f) ≡ d.planner.committed + 1
  pub planner : q ≡ record { number = d.planner.number; committed = d.planner.committed + 1; front = f }

-- there is a legal history that begins with all that the planner of d has seen, and after which no
-- row that d read differs
pub record IsFreshSomewhere (i : Problem) (opening : List Placed) (d : DraftingValue) : Type 0 where
  pub history : List JournalEntry
  pub legal : Legal i opening history
  pub begins : IsPrefix d.planner.front history
  pub fresh : stale i d.base (after i opening history) (calls_of d.asked) ≡ None

-- the draft d was refused, and its planner is now q: either he had seen more than count drafts, and
-- his front is unchanged; or the history that q has seen has count drafts of his, which is not the
-- number that he committed
pub record IsForeign (i : Problem) (opening : List Placed) (d : DraftingValue) (q : PlannerValue) (count : ℕ) : Type 0 where
  pub planner : Grows i opening d.planner q
  pub other : ((count < length d.planner.front) × (q.front ≡ d.planner.front)) ⊎ ((count ≡ length (own q.number q.front)) × (count ≢ q.committed))

-- the draft d is stale: row is the least one that it read and that differs after all that its
-- planner, now q, has seen; the calls are returned with their replies
pub record IsStale (i : Problem) (opening : List Placed) (d : DraftingValue) (q : PlannerValue) (row : Row) (asked : List Asked) : Type 0 where
  pub planner : Grows i opening d.planner q
  pub differs : stale i d.base (after i opening q.front) (calls_of d.asked) ≡ Some row
  pub back : asked ≡ d.asked
