-- Findings as items of lists, each with a link to its grid or cell.
use Rattle.std.specs.Prelude.{ℕ, ◌++◌, Bool, List, [], Option, Some, None, codes, if◌then◌else◌}
use Rattle.std.specs.Fmt.{decimal}
use Rattle.ctt_problem.specs.Problem.{Problem, day_of, period_of}
use Rattle.ctt_findings.specs.declared.finding.Cause.{Cause}
use Rattle.ctt_findings.specs.declared.finding.Cause.TheVariants.{Teacher as HasTeacher, Curriculum as HasCurriculum}
use Rattle.ctt_findings.specs.declared.finding.Finding.{Finding}
use Rattle.ctt_findings.specs.declared.finding.Finding.TheVariants.{Lectures, Conflict, Availability, Occupancy, Barred, Blocked, Capacity, Days, Compactness, Stability}
use Rattle.ctt_views.specs.Grids.{place_id}
use Rattle.ctt_views.specs.Phrases.{price}
use Rattle.ctt_views.specs.Ranking.{points}
use Rattle.ctt_views.specs.Sentences.{sentence}
use Rattle.ctt_views.specs.Views.{has_grid}
use Rattle.ctt_views.specs.declared.grid.Grid.{Grid}
use Rattle.ctt_views.specs.declared.grid.Grid.TheVariants.{Course, Curriculum, Room, Teacher}
use Rattle.ctt_views.specs.declared.view.View.{View}

-- the grid of what two courses have in common
abbrev pub cause_grid : Cause → Grid
cause_grid (HasTeacher n) = Teacher n
cause_grid (HasCurriculum q) = Curriculum q

-- the grid that shows a finding; for one on a course alone it is that of the course
abbrev pub grid_at : Finding → Grid
grid_at (Lectures c placed stated) = Course c
grid_at (Conflict c d s why) = cause_grid why
grid_at (Availability l) = Course l.course
grid_at (Occupancy l) = Room l.room
grid_at (Barred l) = Room l.room
grid_at (Blocked l) = Room l.room
grid_at (Capacity l n) = Room l.room
grid_at (Days c days minimum n) = Course c
grid_at (Compactness q l n) = Curriculum q
grid_at (Stability c rooms n) = Course c

-- the slot of a finding; one on a course as a whole has none
abbrev pub slot_at : Finding → Option ℕ
slot_at (Lectures c placed stated) = None
slot_at (Conflict c d s why) = Some s
slot_at (Availability l) = Some l.slot
slot_at (Occupancy l) = Some l.slot
slot_at (Barred l) = Some l.slot
slot_at (Blocked l) = Some l.slot
slot_at (Capacity l n) = Some l.slot
slot_at (Days c days minimum n) = None
slot_at (Compactness q l n) = Some l.slot
slot_at (Stability c rooms n) = None

-- where a link leads: to a grid, or to the cell of a slot in it, if the page has the grid
unfoldable pub href : Bool → Grid → Option ℕ → List ℕ
href shown g s = if shown then codes " href='#" ++ (place_id g s ++ codes "'") else []

-- the desk's numbers of a day and a period, which are from 0, as a title
unfoldable pub numbers_title : ℕ → ℕ → List ℕ
numbers_title d p = codes " title='day "
    ++ (decimal d
    ++ (codes ", period "
    ++ (decimal p
    ++ codes "'")))

-- the desk's numbers of a slot as a title, if there is one
abbrev pub slot_title : Problem → Option ℕ → List ℕ
slot_title i (Some s) = numbers_title (day_of i s) (period_of i s)
slot_title i None = []

-- the points of an item, and where its link leads
unfoldable pub link_start : Bool → Grid → Option ℕ → ℕ → List ℕ
link_start shown g s n = codes "<li>" ++ (price n ++ (codes "<a" ++ href shown g s))

-- the beginning of an item: its points, and the link to a grid or to the cell of a slot in it, if
-- the page has the grid
unfoldable pub item_start : Problem → View → Grid → Option ℕ → ℕ → List ℕ
item_start i v g s n = link_start (has_grid v g) g s n ++ (slot_title i s ++ codes ">")

-- a finding: its points, and a sentence as a link to the grid or cell that shows it
unfoldable pub finding_item : Problem → View → List ℕ → Finding → List ℕ
finding_item i v days f = item_start i v (grid_at f) (slot_at f) (points f)
    ++ (sentence i days f
    ++ codes "</a></li>\n")
