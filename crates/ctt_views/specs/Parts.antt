-- The parts of the page with grids, and their index.
use Rattle.std.specs.Prelude.{ℕ, ◌++◌, List, [], codes, cond}
use Rattle.ctt_problem.specs.Problem.{Problem, course_count, curriculum_count, room_count, teacher_count}
use Rattle.ctt_problem.specs.declared.placed.Placed.{Placed}
use Rattle.ctt_views.specs.GridTexts.{each_below, grid_text}
use Rattle.ctt_views.specs.Grids.{grid_id, name_of, word_of}
use Rattle.ctt_views.specs.Phrases.{named}
use Rattle.ctt_views.specs.Views.{has_kind}
use Rattle.ctt_views.specs.declared.grid.Grid.{Grid}
use Rattle.ctt_views.specs.declared.grid.Grid.TheVariants.{Course, Curriculum, Room, Teacher}
use Rattle.ctt_views.specs.declared.options.GridKind.{GridKind}
use Rattle.ctt_views.specs.declared.options.GridKind.TheVariants.{Courses, Curricula, Rooms, Teachers}
use Rattle.ctt_views.specs.declared.view.View.{View}

-- the number of a part's grids
abbrev pub count_of : Problem → GridKind → ℕ
count_of i Curricula = curriculum_count i
count_of i Teachers = teacher_count i
count_of i Rooms = room_count i
count_of i Courses = course_count i

-- a grid of a part
abbrev pub grid_of : GridKind → ℕ → Grid
grid_of Curricula n = Curriculum n
grid_of Teachers n = Teacher n
grid_of Rooms n = Room n
grid_of Courses n = Course n

-- the id and the title of a part
abbrev pub id_of : GridKind → List ℕ
id_of Curricula = codes "curricula"
id_of Teachers = codes "teachers"
id_of Rooms = codes "rooms"
id_of Courses = codes "courses"

abbrev pub title_of : GridKind → List ℕ
title_of Curricula = codes "Curricula"
title_of Teachers = codes "Teachers"
title_of Rooms = codes "Rooms"
title_of Courses = codes "Courses"

-- the beginning of a part, which can be folded
unfoldable pub part_start : GridKind → List ℕ
part_start k = codes "<details open><summary><h2 id='"
    ++ (id_of k
    ++ (codes "'>"
    ++ (title_of k
    ++ codes "</h2></summary><article>\n")))

-- the link to a part
unfoldable pub part_link : GridKind → List ℕ
part_link k = codes "<a href='#" ++ (id_of k ++ (codes "'>" ++ (title_of k ++ codes "</a> ")))

-- the link to a part, if the page has it
abbrev pub shown_link : View → GridKind → List ℕ
shown_link v k = cond (has_kind v k) (part_link k) []

-- the grids of a part
abbrev pub part_grids : Problem → List (List Placed) → View → List ℕ → GridKind → List ℕ
part_grids i w v names k = each_below (λ n. grid_text i w v names (grid_of k n)) (count_of i k)

-- a part
unfoldable pub part_text : Problem → List (List Placed) → View → List ℕ → GridKind → List ℕ
part_text i w v names k = part_start k
    ++ (part_grids i w v names k
    ++ codes "</article></details>\n")

-- a part, if the page has it
abbrev pub shown_part : Problem → List (List Placed) → View → List ℕ → GridKind → List ℕ
shown_part i w v names k = cond (has_kind v k) (part_text i w v names k) []

-- the entry of a grid in the index
unfoldable pub entry : Problem → Grid → List ℕ
entry i g = codes "<li><a href='#"
    ++ (grid_id g
    ++ (codes "'>"
    ++ (word_of g
    ++ (codes " "
    ++ (named (name_of i g)
    ++ codes "</a></li>\n")))))

-- the entries of a part
abbrev pub entries : Problem → GridKind → List ℕ
entries i k = each_below (λ n. entry i (grid_of k n)) (count_of i k)

-- the entries of a part, if the page has it
abbrev pub shown_entries : Problem → View → GridKind → List ℕ
shown_entries i v k = cond (has_kind v k) (entries i k) []

-- the index of the grids that the page has, by which it is filtered
unfoldable pub index : Problem → View → List ℕ
index i v = codes "<details><summary><h2 id='index'>Index</h2></summary><ul id='entries'>\n"
    ++ (shown_entries i v Curricula
    ++ (shown_entries i v Teachers
    ++ (shown_entries i v Rooms
    ++ (shown_entries i v Courses
    ++ codes "</ul></details>\n"))))

-- the index and the grids; the names of days are in one text
unfoldable pub parts : Problem → List (List Placed) → View → List ℕ → List ℕ
parts i w v names = index i v
    ++ (shown_part i w v names Curricula
    ++ (shown_part i w v names Teachers
    ++ (shown_part i w v names Rooms
    ++ shown_part i w v names Courses)))
