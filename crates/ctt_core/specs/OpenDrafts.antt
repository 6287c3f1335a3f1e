-- The drafts of a run, defined from its list of events and its list of answers, without following
-- its steps.
use Rattle.std.specs.Prelude.{ℕ, ◌≡◌, ◌⊎◌, ◌↔◌, ◌==◌, ◌||◌, Bool, true, false, cond, List, [], ◌∷◌, ◌++◌, Some}
use Rattle.std.specs.List.{AllByRecursion as Each}
use Rattle.ctt_draft.specs.declared.asked.Asked.{Asked}
use Rattle.ctt_core.specs.declared.event.Event.{Event}
use Rattle.ctt_core.specs.declared.event.Event.TheVariants.{Open, Ask, Commit, Refresh, Abandon}
use Rattle.ctt_core.specs.declared.answer.Answer.{Answer}
use Rattle.ctt_core.specs.declared.answer.Answer.TheVariants.{Opened, Replied, Committed, Refreshed, Stale, Abandoned}
use Rattle.ctt_core.specs.declared.journal.JournalEntry.{JournalEntry}
use Rattle.ctt_core.specs.Runs.{Turn, answered, OpenDraft, commits, draft, accepted_of, onto}

-- the turns of a run, oldest first
abbrev pub turns : List Event → List Answer → List Turn
turns [] answers = []
turns (e ∷ es) [] = []
turns (e ∷ es) (a ∷ answers) = answered e a ∷ turns es answers

-- the turn opens a draft of planner p
abbrev pub is_opening : ℕ → Event → Answer → Bool
is_opening p (Open q) Opened = p == q
is_opening p _ _ = false

-- the turn ends the draft of planner p
abbrev pub is_ending : ℕ → Event → Answer → Bool
is_ending p (Commit q) (Committed n) = p == q
is_ending p (Commit q) (Stale row) = p == q
is_ending p (Refresh q) (Stale row) = p == q
is_ending p (Abandon q) Abandoned = p == q
is_ending p _ _ = false

-- the turn brings the draft of planner p up to date
abbrev pub is_renewal : ℕ → Event → Answer → Bool
is_renewal p (Refresh q) Refreshed = p == q
is_renewal p _ _ = false

-- the turn takes a new snapshot for the draft of planner p
abbrev pub takes_base : ℕ → Event → Answer → Bool
takes_base p e a = is_opening p e a || is_renewal p e a

-- the turn's call with its reply, if it is one of planner p
abbrev pub call_in : ℕ → Event → Answer → List Asked
call_in p (Ask q call) (Replied told) = cond (p == q) (record { call = call; reply = told } ∷ []) []
call_in p _ _ = []

-- the calls of planner p that got a reply, in order
abbrev pub asked_in : ℕ → List Turn → List Asked
asked_in p [] = []
asked_in p (turn ∷ rest) = call_in p turn.event turn.answer ++ asked_in p rest

-- no turn is one of this kind
abbrev pub NoneIn : (Event → Answer → Bool) → List Turn → Type 0
NoneIn kind run = Each (λ (turn : Turn). kind turn.event turn.answer ≡ false) run

-- the last turn of this kind, with those before it and those after it
pub record LastOf (kind : Event → Answer → Bool) (run : List Turn) : Type 0 where
  pub before : List Turn
  pub turn : Turn
  pub behind : List Turn
  pub split : run ≡ before ++ turn ∷ behind
  pub of_kind : kind turn.event turn.answer ≡ true
  pub last : NoneIn kind behind

-- planner p has this draft open: it has not ended since its opening; its calls are those since then
-- that got a reply; and its count is that of the accepted commits before the opening, or before its
-- last refresh
pub record HasOpen (p : ℕ) (run : List Turn) (d : OpenDraft) : Type 0 where
  pub opening : LastOf (is_opening p) run
  pub unended : NoneIn (is_ending p) opening.behind
  pub asked : d.asked ≡ asked_in p opening.behind
  pub base : LastOf (takes_base p) run
  pub count : d.count ≡ commits base.before

-- h is the entry of a turn after the turns `before`, if it adds one, followed by `more`: an
-- accepted commit adds the draft that its planner has open, if any, and no other turn adds an entry
abbrev pub Enters : List Turn → Event → Answer → List JournalEntry → List JournalEntry → Type 0
Enters before (Commit p) (Committed n) h more = ((d : OpenDraft) × HasOpen p before d × (h ≡ record { planner = p; asked = d.asked } ∷ more)) ⊎ (((d : OpenDraft) → ¬ HasOpen p before d) × (h ≡ more))
Enters before _ _ h more = h ≡ more

-- h are the entries that a run after the turns `before` adds, in order
abbrev pub AreEntered : List Turn → List Turn → List JournalEntry → Type 0
AreEntered before [] h = h ≡ []
AreEntered before (turn ∷ rest) h = (more : List JournalEntry) × Enters before turn.event turn.answer h more × AreEntered (before ++ turn ∷ []) rest more

-- in any run, a planner's open draft is the one that follows from the lists of events and answers
abbrev pub DraftsAreTold : Type 0
DraftsAreTold = (p : ℕ) (es : List Event) (answers : List Answer) (d : OpenDraft) → (draft p (onto [] es answers) ≡ Some d) ↔ HasOpen p (turns es answers) d

-- in any run, the accepted history is the one that follows from the lists of events and answers
abbrev pub AcceptedAreTold : Type 0
AcceptedAreTold = (es : List Event) (answers : List Answer) → AreEntered [] (turns es answers) (accepted_of (onto [] es answers))
