-- The lectures of a timetable, slot by slot.
use Rattle.std.specs.Prelude.{◌≡◌, ℕ, zero, suc, List, [], ◌∷◌, ◌++◌, length, slice_index_or}
use Rattle.std.specs.List.{AllByRecursion as Each}
use Rattle.ctt_problem.specs.Problem.{Problem, slot_count}
use Rattle.ctt_problem.specs.Timetable.{Fits, slot_row}
use Rattle.ctt_problem.specs.declared.placed.Placed.{Placed}

-- the lectures in each of the first n slots
abbrev pub by_slot : ℕ → List Placed → List (List Placed)
by_slot zero t = []
by_slot (suc n) t = by_slot n t ++ slot_row n t ∷ []

-- the lectures in one slot
abbrev pub lectures_in : List (List Placed) → ℕ → List Placed
lectures_in w s = slice_index_or w s []

-- the week has as many slots as the instance, and each of its lectures fits the instance
pub record WeekFits (i : Problem) (w : List (List Placed)) : Type 0 where
  pub size : length w ≡ slot_count i
  pub fits : Each (Each (Fits i)) w
