-- Lectures as a table: a room or none for each course in turn, in each slot in turn.
use Rattle.std.specs.Prelude.{ℕ, ◌+◌, ◌/◌, ◌%◌, List, [], ◌∷◌, ◌++◌, Option, Some, None}
use Rattle.ctt_problem.specs.Problem.{Problem}
use Rattle.ctt_problem.specs.declared.placed.Placed.{Placed}

-- an instance, and lectures of it
pub record Collected : Type 0 where
  pub problem : Problem
  pub list : List Placed

-- the lecture at a place of a table with this many slots, if there is a room, as a list
abbrev pub lecture_in : ℕ → ℕ → Option ℕ → List Placed
lecture_in slots place None = []
lecture_in slots place (Some room) = record { course = place / slots; slot = place % slots; room = room } ∷ []

-- the lectures of the rooms of a table from this place on
abbrev pub listed : ℕ → ℕ → List (Option ℕ) → List Placed
listed slots place [] = []
listed slots place (room ∷ rooms) = lecture_in slots place room ++ listed slots (place + 1) rooms
