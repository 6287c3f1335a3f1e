-- The tables of a sheet, by its timetable.
use Rattle.std.specs.Prelude.{◌≡◌, ◌<◌, ℕ, List, Option, None, is_some}
use Rattle.ctt_problem.specs.Problem.{Problem, course_count, slot_count, room_count}
use Rattle.ctt_problem.specs.declared.placed.Placed.{Placed}
use Rattle.ctt_rules.specs.Hard.{Lawful}
use Rattle.ctt_rules.specs.Penalty.{penalty}
use Rattle.ctt_rules.specs.declared.cost.Cost.{Cost}
use Rattle.ctt_board.specs.Changes.{room_at, holder_at}
use Rattle.ctt_grid.specs.Tables.{Grid, at}
use Rattle.ctt_problem.specs.BitRows.{BitTable, is_marked_in}
use Rattle.ctt_grid.specs.Counts.{HasShape, AreCounts}
use Rattle.ctt_grid.specs.declared.tables.Tables.{Tables}
use Rattle.ctt_board.specs.Cells.{rows_below}

-- the timetable that a table of rooms represents
abbrev pub timetable_in : Problem → Grid (Option ℕ) → List Placed
timetable_in i rooms = rows_below (λ c s. at rooms c s None) (slot_count i) (course_count i)

-- the table has the room of each course in each slot
pub record AreRooms (i : Problem) (t : List Placed) (g : Grid (Option ℕ)) : Type 0 where
  pub size : HasShape g (course_count i) (slot_count i)
  pub rooms : (c s : ℕ) → c < course_count i → s < slot_count i → at g c s None ≡ room_at c s t

-- the table has the course in each slot and room
pub record AreHolders (i : Problem) (t : List Placed) (g : Grid (Option ℕ)) : Type 0 where
  pub size : HasShape g (slot_count i) (room_count i)
  pub courses : (s r : ℕ) → s < slot_count i → r < room_count i → at g s r None ≡ holder_at s r t

-- the table has a row for each slot and a bit for each course
abbrev pub HaveRows : BitTable → Problem → Type 0
HaveRows g i = (g.rows ≡ slot_count i) × (g.width ≡ course_count i)

-- the table marks the courses that have a lecture in each slot
pub record AreInSlots (i : Problem) (t : List Placed) (g : BitTable) : Type 0 where
  pub size : HaveRows g i
  pub courses : (s c : ℕ) → s < slot_count i → is_marked_in g s c ≡ is_some (room_at c s t)

-- the look-up tables are those of the timetable t
pub record ArePlaces (i : Problem) (t : List Placed) (g : Tables) : Type 0 where
  pub rooms_are : AreRooms i t g.rooms
  pub courses_are : AreHolders i t g.courses
  pub courses_in_slot_are : AreInSlots i t g.courses_in_slot

-- the look-up tables have the sizes of the instance
pub record HavePlaceSizes (i : Problem) (g : Tables) : Type 0 where
  pub rooms : HasShape g.rooms (course_count i) (slot_count i)
  pub courses : HasShape g.courses (slot_count i) (room_count i)
  pub courses_in_slot : HaveRows g.courses_in_slot i

-- all tables are those of the timetable that the rooms represent, which is lawful
pub record AreTables (i : Problem) (g : Tables) : Type 0 where
  pub lawful : Lawful i (timetable_in i g.rooms)
  pub rooms_are : AreRooms i (timetable_in i g.rooms) g.rooms
  pub courses_are : AreHolders i (timetable_in i g.rooms) g.courses
  pub courses_in_slot_are : AreInSlots i (timetable_in i g.rooms) g.courses_in_slot
  pub counts_are : AreCounts i (timetable_in i g.rooms) g.counts

-- the tables and the costs are those of the timetable that the rooms represent
pub record IsGridSheet (i : Problem) (g : Tables) (cost : Cost) : Type 0 where
  pub tables_are : AreTables i g
  pub cost_is : cost ≡ penalty i (timetable_in i g.rooms)
