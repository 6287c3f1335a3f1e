-- What holds of the page.
use Rattle.std.specs.Prelude.{◌≡◌, ◌≤◌, ◌<◌, ◌==◌, ◌&&◌, ℕ, false, List, cond, count_by, filter}
use Rattle.std.specs.List.{list_any}
use Rattle.ctt_problem.specs.Problem.{Problem, slot_count}
use Rattle.ctt_problem.specs.Timetable.{IsTimetable}
use Rattle.ctt_problem.specs.declared.placed.Placed.{Placed}
use Rattle.ctt_views.specs.Cells.{cell_lectures}
use Rattle.ctt_views.specs.Escape.{escaped}
use Rattle.ctt_views.specs.Grids.{is_of}
use Rattle.ctt_views.specs.Weeks.{by_slot}
use Rattle.ctt_views.specs.declared.grid.Grid.{Grid}

-- an escaped name has no `<`
abbrev pub NamesHoldNoTag : Type 0
NamesHoldNoTag = (name : List ℕ) → list_any (λ b. b == 60) (escaped name) ≡ false

-- how often a lecture occurs in a list
abbrev pub times : Placed → List Placed → ℕ
times l ls = count_by (λ m. m.course == l.course && (m.slot == l.slot && m.room == l.room)) ls

-- the cell of a slot in a grid has the timetable's lectures in the slot that belong to the grid;
-- such a lecture occurs as often in the cell of its slot as in the timetable, at most once, and in
-- no other cell of the grid
pub record StandsOnce (i : Problem) (t : List Placed) (g : Grid) (s : ℕ) : Type 0 where
  pub lectures : cell_lectures i (by_slot (slot_count i) t) g s ≡ filter (λ m. m.slot == s && is_of i g m) t
  pub standing : (l : Placed) → times l (cell_lectures i (by_slot (slot_count i) t) g s) ≡ cond (l.slot == s && is_of i g l) (times l t) 0
  pub once : (l : Placed) → times l t ≤ 1

abbrev pub LecturesStandOnce : Type 0
LecturesStandOnce = (i : Problem) (t : List Placed) → IsTimetable i t → (g : Grid) (s : ℕ) → s < slot_count i → StandsOnce i t g s
