-- The next cell of a change.
use Rattle.std.specs.Prelude.{ℕ, ◌<◌, List, Option}
use Rattle.ctt_problem.specs.Problem.{Problem, course_count, slot_count}
use Rattle.ctt_problem.specs.declared.placed.Placed.{Placed}
use Rattle.ctt_rules.specs.Hard.{Lawful}
use Rattle.ctt_board.specs.Changes.{CellFits, apply_at}

-- the cell of course c in slot s, with room o or none, fits t and leaves it lawful
pub record Ready (i : Problem) (c s : ℕ) (o : Option ℕ) (t : List Placed) : Type 0 where
  pub course : c < course_count i
  pub slot : s < slot_count i
  pub fits : CellFits t c s o
  pub lawful : Lawful i (apply_at c s o t)
