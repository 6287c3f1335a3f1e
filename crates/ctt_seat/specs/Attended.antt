-- How a planner follows his script, and the report of a crew.
use Rattle.std.specs.Prelude.{◌≡◌, ◌≤◌, ◌⊎◌, ◌∷◌, ℕ, All, List, [], filter, length, map, zip, Option}
use mathlib.Core.List.{IsPrefix}
use Rattle.ctt_problem.specs.Problem.{Problem}
use Rattle.ctt_problem.specs.declared.placed.Placed.{Placed}
use Rattle.ctt_core.specs.Runs.{Legal}
use Rattle.ctt_core.specs.declared.event.Event.{Event}
use Rattle.ctt_core.specs.declared.journal.JournalEntry.{JournalEntry}
use Rattle.ctt_desk.specs.Planners.{PlannerValue, new_planners}
use Rattle.ctt_script.specs.ScriptText.{has_words, lines_of, own_item}
use Rattle.ctt_seat.specs.CrewText.{closing_text}
use Rattle.ctt_seat.specs.Seats.{AnswersLine, SeatValue}
use Rattle.ctt_seat.specs.declared.seat.Seat.TheVariants.{Free, Drafting}

-- the items of a planner's script: for each line with words, the event that it asks for, if any
abbrev pub own_items : Problem → ℕ → List (List ℕ) → List (Option Event)
own_items i p lines = map (own_item i p) (filter has_words lines)

-- the items are answered one after another, each at the seat that the previous one left
abbrev pub AnswersItems : Problem → List Placed → List (Option Event) → SeatValue → SeatValue → List ℕ → List ℕ → Type 0
AnswersItems i t0 [] before after old new = (after ≡ before) × (new ≡ old)
AnswersItems i t0 (item ∷ items) before after old new = (next : SeatValue) × (text : List ℕ) × AnswersLine i t0 item before next old text × AnswersItems i t0 items next after text new

-- the planner who leaves a seat, abandoning an open draft
abbrev pub leaver : SeatValue → PlannerValue
leaver (Free p) = p
leaver (Drafting d) = d.planner

-- a planner follows his script from the seat before: text is the answers, and he leaves as q
abbrev pub Attends : Problem → List Placed → List ℕ → SeatValue → PlannerValue → List ℕ → Type 0
Attends i t0 script before q text = (after : SeatValue) × AnswersItems i t0 (own_items i (leaver before).number (lines_of script)) before after [] text × (q ≡ leaver after)

-- the planner, without an open draft, follows his script: text is the answers, and he leaves as q
abbrev pub IsAttended : Problem → List Placed → PlannerValue × List ℕ → PlannerValue → List ℕ → Type 0
IsAttended i t0 who q text = Attends i t0 who.1 (Free who.0) q text

-- each planner follows his script; the planners as they leave and the answers have the same order
abbrev pub AreAttended : Problem → List Placed → List (PlannerValue × List ℕ) → List PlannerValue → List (List ℕ) → Type 0
AreAttended i t0 [] [] [] = Unit {0}
AreAttended i t0 (who ∷ more) (q ∷ others) (text ∷ texts) = IsAttended i t0 who q text × AreAttended i t0 more others texts
AreAttended i t0 _ _ _ = ⊥

-- the history begins with all that each planner has seen, or one of them has seen more drafts than
-- it has
abbrev pub HoldsSeen : List PlannerValue → List JournalEntry → Type 0
HoldsSeen planners history = All (λ (p : PlannerValue). IsPrefix p.front history) planners ⊎ ¬ All (λ (p : PlannerValue). length p.front ≤ length history) planners

-- the report has these answers, the length of a legal history on the opening, and the costs of the
-- opening after it; the history holds what the planners have seen
pub record IsClosingReport (problem : Problem) (opening : List Placed) (planners : List PlannerValue) (answers : List (List ℕ)) (text : List ℕ) : Type 0 where
  pub history : List JournalEntry
  pub legal : Legal problem opening history
  pub holds : HoldsSeen planners history
  pub is : text ≡ closing_text problem opening answers history

-- the report of a crew: the answers to these scripts, each followed by the planner of the same
-- number, and last lines for a history that holds what each planner had seen when he left
pub record IsCrewText (problem : Problem) (opening : List Placed) (scripts : List (List ℕ)) (text : List ℕ) : Type 0 where
  pub planners : List PlannerValue
  pub answers : List (List ℕ)
  pub attended : AreAttended problem opening (zip (new_planners (length scripts)) scripts) planners answers
  pub closes : IsClosingReport problem opening planners answers text
