-- The grids of the page.
use Rattle.std.specs.Prelude.{ℕ, ◌<◌, ◌==◌, ◌++◌, Bool, false, List, [], Option, Some, None, codes, slice_index_or}
use Rattle.std.specs.Fmt.{decimal}
use Rattle.ctt_problem.specs.Lists.{has}
use Rattle.ctt_problem.specs.Problem.{Problem, course_count, course_of, members, curriculum_count, is_blocked, is_closed as course_closed, is_unavailable, room_count, teacher_count}
use Rattle.ctt_problem.specs.declared.placed.Placed.{Placed}
use Rattle.ctt_views.specs.Closures.{teacher_closed}
use Rattle.ctt_views.specs.declared.grid.Grid.{Grid}
use Rattle.ctt_views.specs.declared.grid.Grid.TheVariants.{Curriculum, Teacher, Room, Course}

-- the lecture belongs to the grid
abbrev pub is_of : Problem → Grid → Placed → Bool
is_of i (Curriculum q) l = has l.course (members i q)
is_of i (Teacher n) l = (course_of i l.course).teacher == n
is_of i (Room r) l = l.room == r
is_of i (Course c) l = l.course == c

-- the number of a grid is one of the instance
abbrev pub GridFits : Problem → Grid → Type 0
GridFits i (Curriculum q) = q < curriculum_count i
GridFits i (Teacher n) = n < teacher_count i
GridFits i (Room r) = r < room_count i
GridFits i (Course c) = c < course_count i

-- the word for what a grid shows
abbrev pub word_of : Grid → List ℕ
word_of (Curriculum q) = codes "Curriculum"
word_of (Teacher n) = codes "Teacher"
word_of (Room r) = codes "Room"
word_of (Course c) = codes "Course"

-- the name of what a grid shows
abbrev pub name_of : Problem → Grid → List ℕ
name_of i (Curriculum q) = slice_index_or i.curriculum_names q []
name_of i (Teacher n) = slice_index_or i.teacher_names n []
name_of i (Room r) = slice_index_or i.room_names r []
name_of i (Course c) = slice_index_or i.course_names c []

-- the id of a grid: a letter and a number
unfoldable pub grid_id : Grid → List ℕ
grid_id (Curriculum q) = codes "c" ++ decimal q
grid_id (Teacher n) = codes "t" ++ decimal n
grid_id (Room r) = codes "r" ++ decimal r
grid_id (Course c) = codes "k" ++ decimal c

-- the grid is that of a course that is unavailable in the slot
abbrev pub is_closed : Problem → Grid → ℕ → Bool
is_closed i (Curriculum q) s = false
is_closed i (Teacher n) s = false
is_closed i (Room r) s = false
is_closed i (Course c) s = is_unavailable i c s

-- closures block the room of a grid in the slot, or its course, or all courses of its teacher
abbrev pub is_blocked_in : Problem → Grid → ℕ → Bool
is_blocked_in i (Curriculum q) s = false
is_blocked_in i (Teacher n) s = teacher_closed i n s
is_blocked_in i (Room r) s = is_blocked i r s
is_blocked_in i (Course c) s = course_closed i c s

-- the id of a grid, or of the cell of a slot in it
unfoldable pub place_id : Grid → Option ℕ → List ℕ
place_id g (Some s) = grid_id g ++ (codes "-" ++ decimal s)
place_id g None = grid_id g
