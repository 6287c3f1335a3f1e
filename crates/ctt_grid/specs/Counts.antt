-- The counts of a sheet, by its timetable.
use Rattle.std.specs.Prelude.{◌≡◌, ◌<◌, ◌≤◌, ℕ, Bool, not, ◌&&◌, ◌==◌, List, length, count_by}
use Rattle.std.specs.List.{list_any}
use Rattle.ctt_problem.specs.Lists.{has}
use Rattle.ctt_problem.specs.BitRows.{BitTable, is_marked_in}
use Rattle.ctt_problem.specs.Problem.{Problem, course_count, room_count, curriculum_count, slot_count, members, day_of}
use Rattle.ctt_problem.specs.Timetable.{course_row}
use Rattle.ctt_problem.specs.declared.placed.Placed.{Placed}
use Rattle.ctt_grid.specs.CostDelta.{on_day, in_room, in_slot}
use Rattle.ctt_grid.specs.Tables.{Grid, at, AddsAtEach, CountsAreFew, one_at}
use Rattle.ctt_grid.specs.declared.counts.Counts.{Counts}

-- the table has this size
abbrev pub HasShape : {T : Type 0} → Grid T → ℕ → ℕ → Type 0
HasShape g rows width = (g.rows ≡ rows) × (g.width ≡ width)

-- the table has a row for each curriculum and a bit for each slot
abbrev pub HaveSlots : BitTable → Problem → Type 0
HaveSlots g i = (g.rows ≡ curriculum_count i) × (g.width ≡ slot_count i)

-- the tables have the sizes of the instance
pub record HaveSizes (i : Problem) (c : Counts) : Type 0 where
  pub lectures : HasShape c.lectures 1 (course_count i)
  pub days : HasShape c.days (course_count i) i.days
  pub rooms : HasShape c.rooms (course_count i) (room_count i)
  pub curricula : HaveSlots c.curricula i

-- a table of this size with `count r k` in row r and column k
pub record Counted (g : Grid ℕ) (rows width : ℕ) (count : ℕ → ℕ → ℕ) : Type 0 where
  pub size : HasShape g rows width
  pub counts : (r k : ℕ) → r < rows → k < width → at g r k 0 ≡ count r k

-- the table marks the slots in which each curriculum has a lecture
pub record AreBusy (i : Problem) (t : List Placed) (g : BitTable) : Type 0 where
  pub size : HaveSlots g i
  pub slots : (q s : ℕ) → q < curriculum_count i → is_marked_in g q s ≡ list_any (in_slot (members i q) s) t

-- the counts of t: the lectures of each course, those on each day and those in each room; and the
-- slots in which each curriculum has a lecture
pub record AreCounts (i : Problem) (t : List Placed) (c : Counts) : Type 0 where
  pub lectures : Counted c.lectures 1 (course_count i) (λ _ course. length (course_row course t))
  pub days : Counted c.days (course_count i) i.days (λ course day. count_by (on_day i course day) t)
  pub rooms : Counted c.rooms (course_count i) (room_count i) (λ course room. count_by (in_room course room) t)
  pub curricula : AreBusy i t c.curricula

-- each table of counts of `new` is that of `old` with lecture l added
pub record AddsLecture (i : Problem) (l : Placed) (old new : Counts) : Type 0 where
  pub lectures : AddsAtEach old.lectures new.lectures (one_at 0 l.course)
  pub days : AddsAtEach old.days new.days (one_at l.course (day_of i l.slot))
  pub rooms : AddsAtEach old.rooms new.rooms (one_at l.course l.room)

-- one of these curricula, in this slot
abbrev pub in_one_slot : List ℕ → ℕ → ℕ → ℕ → Bool
in_one_slot curricula slot q s = has q curricula && s == slot

-- the numbers that pass the test are unmarked, and all others are unchanged
pub record TakesMarks (old new : BitTable) (test : ℕ → ℕ → Bool) : Type 0 where
  pub size : (new.rows ≡ old.rows) × (new.width ≡ old.width)
  pub marks : (r n : ℕ) → is_marked_in new r n ≡ (is_marked_in old r n && not (test r n))

-- the counts by course are small, so that adding one does not overflow
pub record HaveRoom (c : Counts) : Type 0 where
  pub lectures : CountsAreFew c.lectures
  pub days : CountsAreFew c.days
  pub rooms : CountsAreFew c.rooms

-- lecture l is counted, so that it can be subtracted
pub record HaveLecture (i : Problem) (l : Placed) (c : Counts) : Type 0 where
  pub lectures : 1 ≤ at c.lectures 0 l.course 0
  pub days : 1 ≤ at c.days l.course (day_of i l.slot) 0
  pub rooms : 1 ≤ at c.rooms l.course l.room 0
