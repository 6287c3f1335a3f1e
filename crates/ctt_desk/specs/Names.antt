-- What the name of a desk says about it.
use Rattle.std.specs.Prelude.{ℕ, ◌≡◌, List, []}
use Rattle.logbook.specs.Pages.{Book}
use Rattle.ctt_problem.specs.Problem.{Problem}
use Rattle.ctt_problem.specs.declared.placed.Placed.{Placed}

-- the empty instance, which a name has unless a caller chooses another
abbrev pub nothing : Problem
nothing = record {
  name = [];
  course_names = [];
  courses = [];
  teacher_names = [];
  room_names = [];
  capacities = [];
  curriculum_names = [];
  curricula = [];
  days = 0;
  periods = 0;
  unavailable = [];
  closed = [];
  barred = [];
  blocked = [];
}

-- a desk's opening: its instance, its lectures, and the logbook of its history
pub record OpenedValue : Type 0 where
  pub problem : Problem
  pub list : List Placed
  pub book : Book

-- the name says the instance, lectures and logbook of this opening, and this number of planners
pub record IsNameOf (problem : Problem) (opening : List Placed) (planners : ℕ) (book : Book) (opened : OpenedValue) (count : ℕ) : Type 0 where
  pub of : opened.problem ≡ problem
  pub opens : opened.list ≡ opening
  pub counted : count ≡ planners
  pub kept_in : opened.book ≡ book
