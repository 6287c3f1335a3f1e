-- The headings of grids.
use Rattle.std.specs.Prelude.{ℕ, ◌++◌, List, [], codes}
use Rattle.ctt_problem.specs.Problem.{Problem, capacity_of, course_of}
use Rattle.ctt_views.specs.Grids.{grid_id, name_of, word_of}
use Rattle.ctt_views.specs.Phrases.{amount, named}
use Rattle.ctt_views.specs.Views.{link}
use Rattle.ctt_views.specs.declared.grid.Grid.{Grid}
use Rattle.ctt_views.specs.declared.grid.Grid.TheVariants.{Course, Curriculum, Room, Teacher}
use Rattle.ctt_views.specs.declared.view.View.{View}

-- the students and the teacher of a course
unfoldable pub course_note : Problem → View → ℕ → List ℕ
course_note i v c = codes ", "
    ++ (amount (course_of i c).students (codes "student")
    ++ (codes ", teacher "
    ++ link i v (Teacher (course_of i c).teacher)))

-- the seats of a room
unfoldable pub room_note : ℕ → List ℕ
room_note seats = codes ", " ++ amount seats (codes "seat")

-- what the heading of a grid says after the name
abbrev pub note : Problem → View → Grid → List ℕ
note i v (Curriculum q) = []
note i v (Teacher n) = []
note i v (Room r) = room_note (capacity_of i r)
note i v (Course c) = course_note i v c

-- the beginning of the heading of a grid, with its name
unfoldable pub heading : Problem → Grid → List ℕ
heading i g = codes "<section><h3 id='" ++ (grid_id g ++ (codes "'>" ++ (word_of g ++ (codes " " ++ named (name_of i g)))))

-- the beginning of a table, which has the heading of its grid as label: the first cell of the line
-- of days
unfoldable pub table_start : Grid → List ℕ
table_start g = codes "</h3><div><table aria-labelledby='"
    ++ (grid_id g
    ++ codes "'>\n<tr><th>period</th>")

-- the beginning of a grid: its heading, and that of its table
unfoldable pub grid_start : Problem → View → Grid → List ℕ
grid_start i v g = heading i g ++ (note i v g ++ table_start g)
