-- What a planner at a seat is answered.
use Rattle.std.proofs.Common.{◌≡◌, ◌++◌, List, ℕ, Option, None, Some, Result, Ok, refl, subst, sym}
use Rattle.std.specs.Prelude.{OnOk}
use Rattle.std.proofs.lemmas.Result.{on_ok_weaker}
use Rattle.ctt_problem.specs.Problem.{Problem}
use Rattle.ctt_problem.specs.declared.placed.Placed.{Placed}
use Rattle.ctt_edits.specs.declared.looks.Look.{Look}
use Rattle.ctt_core.specs.declared.event.Event.{Event}
use Rattle.ctt_core.specs.declared.event.Event.TheVariants.{Abandon, Ask, Commit, Open, Peek, Refresh, Show, Status}
use Rattle.ctt_core.specs.declared.journal.JournalEntry.{JournalEntry}
use Rattle.ctt_desk.specs.Histories.{entry_of}
use Rattle.ctt_seat.specs.Seats.{Commits, SeatValue, Takes, open_entry}
use Rattle.ctt_seat.specs.declared.seat.Seat.TheVariants.{Drafting, Free}
use Rattle.ctt_seat.specs.declared.seat.SeatAnswer.{SeatAnswer}
use Rattle.ctt_log.specs.Minutes.{EndsWith}
use Rattle.ctt_office.specs.declared.seat_state.SeatState.{SeatState}
use Rattle.ctt_office.specs.SeatAnswers.{AddsAnswer, AnswersEvent, IsAnsweredBy, IsCommitAlone, IsCommitAnswer, IsToldAnswer, IsStepAnswer}

-- a text to which an answer was added
pub adds : {T E : Type 0} (written : Result T E) (P : List ℕ → Type 0) (old new answer : List ℕ) → P answer → OnOk written (new ≡ old ++ answer) → OnOk written (AddsAnswer P old new)
adds written P old new answer is grown = on_ok_weaker written (λ g. (answer, is, g)) grown

-- if P implies Q, an added answer of which P holds is one of which Q holds
pub adds_also : {T E : Type 0} (written : Result T E) (P Q : List ℕ → Type 0) (old new : List ℕ) → ((answer : List ℕ) → P answer → Q answer) → OnOk written (AddsAnswer P old new) → OnOk written (AddsAnswer Q old new)
adds_also written P Q old new also grown = on_ok_weaker written (λ a. (a.0, also a.0 a.1, a.2)) grown

module _ (i : Problem) (t0 : List Placed) where
  -- the history of a commit's receipt ends with the draft that was open
  pub ends_with : (before after : SeatValue) (history : List JournalEntry) (entry : List ℕ) → Commits i t0 before after (Ok history) → entry ≡ open_entry i before → EndsWith i history entry
  ends_with (Free p) after history entry done is = absurd done
  ends_with (Drafting d) after history entry done is = (d.planner.front ++ done.1.between, entry_of d.planner.number d.asked, done.1.ends, is)

  -- all but a look at the published timetable is done as in a crew
  pub no_show : (event : Event) (before after : SeatValue) (told : SeatAnswer) → ((look : Look) → event ≡ Show look → ⊥) → Takes i t0 event before after told → AnswersEvent i t0 event before after told
  no_show (Open p) before after told other is = is
  no_show (Ask p call) before after told other is = is
  no_show (Peek p look) before after told other is = is
  no_show (Status p) before after told other is = is
  no_show (Commit p) before after told other is = is
  no_show (Refresh p) before after told other is = is
  no_show (Abandon p) before after told other is = is
  no_show (Show look) before after told other is = absurd (other look refl)

module _ {X Y : Type 0} (i : Problem) (t0 : List Placed) where
  -- a step that is no commit
  pub no_commit : {B : Type 0} (log : Option B) (IsKept : List JournalEntry → Type 0) (Failed : Type 0) (event : Event) (before after : SeatState X Y) (answer : List ℕ) → ((p : ℕ) → event ≡ Commit p → ⊥) → IsToldAnswer i t0 event before after answer
      → IsStepAnswer log IsKept Failed i t0 event before after answer
  no_commit log IsKept Failed (Open p) before after answer other is = is
  no_commit log IsKept Failed (Ask p call) before after answer other is = is
  no_commit log IsKept Failed (Peek p look) before after answer other is = is
  no_commit log IsKept Failed (Status p) before after answer other is = is
  no_commit log IsKept Failed (Commit p) before after answer other is = absurd (other p refl)
  no_commit log IsKept Failed (Refresh p) before after answer other is = is
  no_commit log IsKept Failed (Abandon p) before after answer other is = is
  no_commit log IsKept Failed (Show look) before after answer other is = is

  -- a commit without a log
  pub without_log : {B : Type 0} (log : Option B) (IsKept : List JournalEntry → Type 0) (Failed : Type 0) (event : Event) (p : ℕ) (before after : SeatState X Y) (answer : List ℕ) → log ≡ None → event ≡ Commit p → IsCommitAlone i t0 before after answer
      → IsStepAnswer log IsKept Failed i t0 event before after answer
  without_log log IsKept Failed event p before after answer none same is =
      subst (λ e. IsStepAnswer log IsKept Failed i t0 e before after answer) (sym same) (subst (λ o. IsAnsweredBy o IsKept Failed i t0 before after answer) (sym none) is)

  -- a commit with a log
  pub with_log : {B : Type 0} (log : Option B) (b : B) (IsKept : List JournalEntry → Type 0) (Failed : Type 0) (event : Event) (p : ℕ) (before after : SeatState X Y) (answer : List ℕ) → log ≡ Some b → event ≡ Commit p
      → IsCommitAnswer IsKept Failed i t0 before after answer → IsStepAnswer log IsKept Failed i t0 event before after answer
  with_log log b IsKept Failed event p before after answer some same is =
      subst (λ e. IsStepAnswer log IsKept Failed i t0 e before after answer) (sym same) (subst (λ o. IsAnsweredBy o IsKept Failed i t0 before after answer) (sym some) is)
