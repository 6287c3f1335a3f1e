-- What a page has below the verdict: one grid alone, or the grids of all kinds or of one, with
-- their index and the findings.
use Rattle.std.specs.Prelude.{ℕ, ◌++◌, Bool, List, [], Option, Some, None, codes}
use Rattle.std.specs.Fmt.{decimal}
use Rattle.ctt_problem.specs.Problem.{Problem, slot_count}
use Rattle.ctt_problem.specs.declared.placed.Placed.{Placed}
use Rattle.ctt_rules.specs.declared.cost.Cost.{Cost}
use Rattle.ctt_rules.specs.declared.hard.Hard.{Hard}
use Rattle.ctt_findings.specs.declared.finding.Finding.{Finding}
use Rattle.ctt_views.specs.GridTexts.{grid_text}
use Rattle.ctt_views.specs.Parts.{id_of, parts, shown_link}
use Rattle.ctt_views.specs.Report.{report}
use Rattle.ctt_views.specs.Sections.{sections}
use Rattle.ctt_views.specs.Views.{view_alone, view_with}
use Rattle.ctt_views.specs.Weeks.{by_slot}
use Rattle.ctt_views.specs.declared.grid.Grid.{Grid}
use Rattle.ctt_views.specs.declared.grid.Grid.TheVariants as grid
use Rattle.ctt_views.specs.declared.options.GridKind.{GridKind}
use Rattle.ctt_views.specs.declared.options.GridKind.TheVariants.{Courses, Curricula, Rooms, Teachers}
use Rattle.ctt_views.specs.declared.script.TheConstants.{SCRIPT}
use Rattle.ctt_views.specs.declared.selection.Selection.{Selection}
use Rattle.ctt_views.specs.declared.selection.Selection.TheVariants.{Curriculum, Teacher, Course, Room}
use Rattle.ctt_views.specs.declared.view.View.{View}

-- the grid of a selection
abbrev pub selected_grid : Selection → Grid
selected_grid (Curriculum q) = grid.Curriculum q
selected_grid (Teacher n) = grid.Teacher n
selected_grid (Course c) = grid.Course c
selected_grid (Room r) = grid.Room r

-- the beginning of what is shown of so many days
unfoldable pub main_start : ℕ → List ℕ
main_start days = codes "<main id='grids' style='--days:" ++ (decimal days ++ codes "'>\n")

-- a grid that stands alone
unfoldable pub lone_grid : Bool → List ℕ → Problem → List Placed → Grid → List ℕ
lone_grid plain days i t g = main_start i.days
    ++ (grid_text i (by_slot (slot_count i) t) (view_alone plain) days g
    ++ codes "</main>")

-- what says that a page has the grids of one kind only
unfoldable pub kind_note : GridKind → List ℕ
kind_note k = codes "<p id='only'>This page has the grids of the "
    ++ (id_of k
    ++ codes " only. With <kbd>--grids</kbd> it has those of another kind, and with <kbd>--teacher</kbd>, <kbd>--course</kbd>, <kbd>--room</kbd> or <kbd>--curriculum</kbd> one alone.</p>\n")

abbrev pub only_note : Option GridKind → List ℕ
only_note (Some k) = kind_note k
only_note None = []

-- the links to the parts of a page, and an entry by which it is filtered
unfoldable pub nav : View → List ℕ
nav v = codes "<nav aria-label='Parts of the page'><div id='entry' role='search' hidden><label for='find'>Show</label> <input id='find' type='search' placeholder='a teacher, a course ..' autocomplete='off'> <span id='shown' role='status'></span></div>\n"
    ++ (shown_link v Curricula
    ++ (shown_link v Teachers
    ++ (shown_link v Rooms
    ++ (shown_link v Courses
    ++ codes "<a href='#index'>Index</a> <a href='#findings'>Findings</a></nav>\n"))))

-- what precedes the grids
unfoldable pub before_grids : Problem → Option GridKind → View → List ℕ
before_grids i only v = only_note only ++ (nav v ++ main_start i.days)

-- the report and the findings of a timetable, ranked
unfoldable pub findings_part : Problem → View → List ℕ → List Finding → Hard → Cost → Bool → Bool
    → List ℕ
findings_part i v days found hard cost lawful complete =
    codes "<div id='found'><h2 id='findings'>Findings</h2>\n<p>Days and periods are counted from 1.</p>\n"
    ++ (report v.plain i hard cost lawful complete
    ++ (sections i v days found hard cost
    ++ codes "</div></div>\n"))

-- what follows the findings: the script
unfoldable pub script_end : List ℕ → List ℕ
script_end script = codes "</main>\n<script>" ++ (script ++ codes "</script>")

-- the grids of a page, and the findings
unfoldable pub all_grids : Option GridKind → Bool → List ℕ → Problem → List Placed → List Finding
    → Hard → Cost → Bool → Bool → List ℕ
all_grids only plain days i t found hard cost lawful complete =
    before_grids i only (view_with only plain)
    ++ (parts i (by_slot (slot_count i) t) (view_with only plain) days
    ++ (findings_part i (view_with only plain) days found hard cost lawful complete
    ++ script_end SCRIPT.now))
