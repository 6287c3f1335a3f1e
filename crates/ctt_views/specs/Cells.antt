-- The cells of grids, and the lectures in them.
use Rattle.std.specs.Prelude.{ℕ, ◌++◌, Bool, List, [], Some, codes, cond, filter, flat_map, if◌then◌else◌}
use Rattle.std.specs.Fmt.{decimal}
use Rattle.ctt_problem.specs.Problem.{Problem}
use Rattle.ctt_problem.specs.declared.placed.Placed.{Placed}
use Rattle.ctt_views.specs.Grids.{is_blocked_in, is_closed, is_of, place_id}
use Rattle.ctt_views.specs.Signs.{signs}
use Rattle.ctt_views.specs.Views.{link}
use Rattle.ctt_views.specs.Weeks.{lectures_in}
use Rattle.ctt_views.specs.declared.grid.Grid.{Grid}
use Rattle.ctt_views.specs.declared.grid.Grid.TheVariants.{Course, Room}
use Rattle.ctt_views.specs.declared.view.View.{View}

-- the names of a lecture's course and room; the number of the course gives the colour
unfoldable pub names_text : Problem → View → Placed → List ℕ
names_text i v l = codes "<p style='--course:"
    ++ (decimal l.course
    ++ (codes "'>"
    ++ (link i v (Course l.course)
    ++ (codes " <small>"
    ++ (link i v (Room l.room)
    ++ codes "</small>")))))

-- a lecture as a grid shows it: its names and its signs
unfoldable pub lecture_text : Problem → List (List Placed) → View → Grid → Placed → List ℕ
lecture_text i w v g l = names_text i v l ++ (signs i w v g l ++ codes "</p>")

-- a lecture, if it belongs to the grid
abbrev pub shown_text : Problem → List (List Placed) → View → Grid → Placed → List ℕ
shown_text i w v g l = cond (is_of i g l) (lecture_text i w v g l) []

-- the lectures of the cell of a slot: those in the slot that belong to the grid
abbrev pub cell_lectures : Problem → List (List Placed) → Grid → ℕ → List Placed
cell_lectures i w g s = filter (is_of i g) (lectures_in w s)

-- the mark of a slot that closures block in a grid, or else of one in which the course of the grid
-- is unavailable
unfoldable pub mark : Bool → Bool → List ℕ
mark blocked closed = if blocked then codes "<em>&#9644;&#160;blocked</em>"
    else if closed then codes "<em>closed</em>" else []

-- the beginning of the cell of a slot
unfoldable pub cell_start : Problem → Grid → ℕ → List ℕ
cell_start i g s = codes "<td id='" ++ (place_id g (Some s) ++ (codes "'>" ++ mark (is_blocked_in i g s) (is_closed i g s)))

-- the cell of a slot
unfoldable pub cell : Problem → List (List Placed) → View → Grid → ℕ → List ℕ
cell i w v g s = cell_start i g s
    ++ (flat_map (lecture_text i w v g) (cell_lectures i w g s)
    ++ codes "</td>")
