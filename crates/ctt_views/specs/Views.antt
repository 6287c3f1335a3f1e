-- Which grids a page has, and how it links to them.
use Rattle.std.specs.Prelude.{ℕ, ◌+◌, ◌*◌, ◌++◌, Bool, true, false, List, Option, Some, None, codes, nat_lt, if◌then◌else◌}
use Rattle.ctt_problem.specs.Problem.{Problem, course_count, curriculum_count, room_count, slot_count, teacher_count}
use Rattle.ctt_views.specs.Grids.{grid_id, name_of}
use Rattle.ctt_views.specs.Phrases.{named}
use Rattle.ctt_views.specs.declared.grid.Grid.{Grid}
use Rattle.ctt_views.specs.declared.grid.Grid.TheVariants.{Curriculum, Teacher, Room, Course}
use Rattle.ctt_views.specs.declared.options.GridKind.{GridKind}
use Rattle.ctt_views.specs.declared.options.GridKind.TheVariants.{Courses, Curricula, Rooms, Teachers}
use Rattle.ctt_views.specs.declared.view.View.{View}

-- the cells of the grids of all kinds
abbrev pub cell_count : Problem → ℕ
cell_count i = (curriculum_count i + teacher_count i + room_count i + course_count i) * slot_count i

-- the kind of which a page has the only grids: the one that is asked for, or rooms if the grids of
-- all kinds are too much for a browser
abbrev pub only_kind : Problem → Option GridKind → Option GridKind
only_kind i (Some k) = Some k
only_kind i None = if nat_lt 80000 (cell_count i) then Some Rooms else None

-- a page with the grids of one kind only, or of all kinds
abbrev pub view_with : Option GridKind → Bool → View
view_with None plain = record {
  curricula = true;
  teachers = true;
  rooms = true;
  courses = true;
  plain = plain;
}
view_with (Some Curricula) plain = record {
  curricula = true;
  teachers = false;
  rooms = false;
  courses = false;
  plain = plain;
}
view_with (Some Teachers) plain = record {
  curricula = false;
  teachers = true;
  rooms = false;
  courses = false;
  plain = plain;
}
view_with (Some Rooms) plain = record {
  curricula = false;
  teachers = false;
  rooms = true;
  courses = false;
  plain = plain;
}
view_with (Some Courses) plain = record {
  curricula = false;
  teachers = false;
  rooms = false;
  courses = true;
  plain = plain;
}

-- a page without the grids of any kind, on which one grid stands alone
abbrev pub view_alone : Bool → View
view_alone plain = record {
  curricula = false;
  teachers = false;
  rooms = false;
  courses = false;
  plain = plain;
}

-- the page has the grids of the kind
abbrev pub has_kind : View → GridKind → Bool
has_kind v Curricula = v.curricula
has_kind v Teachers = v.teachers
has_kind v Rooms = v.rooms
has_kind v Courses = v.courses

-- the page has the grid among those of its kind
abbrev pub has_grid : View → Grid → Bool
has_grid v (Curriculum q) = v.curricula
has_grid v (Teacher n) = v.teachers
has_grid v (Room r) = v.rooms
has_grid v (Course c) = v.courses

-- a name: a link to the grid of that name, if the page has it
unfoldable pub linked : Bool → Grid → List ℕ → List ℕ
linked shown g name = if shown
    then codes "<a href='#" ++ (grid_id g ++ (codes "'>" ++ (named name ++ codes "</a>")))
    else named name

-- the name of what a grid shows, as a page links to it
abbrev pub link : Problem → View → Grid → List ℕ
link i v g = linked (has_grid v g) g (name_of i g)
