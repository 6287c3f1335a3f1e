-- Sets of rows.
use Rattle.std.specs.Prelude.{ℕ, ◌≡◌, ◌<◌, ◌≤◌, ◌||◌, ◌&&◌, Bool, nat_le, nat_lt, List}
use Rattle.ctt_problem.specs.Marks.{is_marked}
use Rattle.ctt_problem.specs.Problem.{Problem, course_count, slot_count}
use Rattle.ctt_edits.specs.Calls.{reads_course, reads_slot, rows_where}
use Rattle.ctt_edits.specs.declared.call.Call.{Call}
use Rattle.ctt_edits.specs.declared.row.Row.{Row}
use Rattle.ctt_edits.specs.declared.row.Row.TheVariants.{Course as CourseRow, Slot as SlotRow}

-- marks on the courses and on the slots whose rows are in the set
pub record RowSet : Type 0 where
  pub courses : List ℕ
  pub slots : List ℕ

-- the row of course c is in the set
abbrev pub has_course : RowSet → ℕ → Bool
has_course rows c = is_marked rows.courses c

-- the row of slot s is in the set
abbrev pub has_slot : RowSet → ℕ → Bool
has_slot rows s = is_marked rows.slots s

-- the row is in the set
abbrev pub is_in : RowSet → Row → Bool
is_in rows (CourseRow c) = has_course rows c
is_in rows (SlotRow s) = has_slot rows s

-- the rows of the instance that are in the set, in order
abbrev pub rows_of : Problem → RowSet → List Row
rows_of i rows = rows_where i (has_course rows) (has_slot rows)

-- the rows of the instance that the call reads are added to the set, and no others
pub record AddsReads (i : Problem) (call : Call) (old new : RowSet) : Type 0 where
  pub courses : (c : ℕ) → c < course_count i → has_course new c ≡ (has_course old c || reads_course i call c)
  pub slots : (s : ℕ) → s < slot_count i → has_slot new s ≡ (has_slot old s || reads_slot call s)
  pub courses_past : (c : ℕ) → course_count i ≤ c → has_course new c ≡ has_course old c
  pub slots_past : (s : ℕ) → slot_count i ≤ s → has_slot new s ≡ has_slot old s

-- n is at least `from`, is below `end`, and passes the test
abbrev pub between : ℕ → ℕ → (ℕ → Bool) → ℕ → Bool
between from end test n = nat_le from n && nat_lt n end && test n
