-- How far a planner, and a crew, have come with their scripts.
use Rattle.std.specs.Prelude.{◌++◌, ℕ, List, []}
use Rattle.ctt_problem.specs.Problem.{Problem}
use Rattle.ctt_problem.specs.declared.placed.Placed.{Placed}
use Rattle.ctt_desk.specs.Planners.{PlannerValue}
use Rattle.ctt_seat.specs.Attended.{AnswersItems, AreAttended, own_items}
use Rattle.ctt_seat.specs.Seats.{SeatValue}

-- the loop's invariant: what answers the lines in left, from this seat and text, completes the
-- answers to all lines from the first seat
abbrev pub IsAttending : Problem → List Placed → ℕ → List (List ℕ) → List (List ℕ) → SeatValue → SeatValue → List ℕ → Type 0
IsAttending i t0 p all left before seat text = (after : SeatValue) (new : List ℕ) → AnswersItems i t0 (own_items i p left) seat after text new → AnswersItems i t0 (own_items i p all) before after [] new

-- the loop's invariant: these planners as they left and these answers, followed by those of the
-- planners in left, are those of all
abbrev pub AreAttending : Problem → List Placed → List (PlannerValue × List ℕ) → List (PlannerValue × List ℕ) → List PlannerValue → List (List ℕ) → Type 0
AreAttending i t0 all left planners texts = (others : List PlannerValue) (more : List (List ℕ)) → AreAttended i t0 left others more → AreAttended i t0 all (planners ++ others) (texts ++ more)
