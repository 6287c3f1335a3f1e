-- The signs of a lecture that breaks a rule or costs points.
use Rattle.std.specs.Prelude.{ℕ, Bool, false, ◌==◌, ◌&&◌, ◌++◌, not, List, [], codes, if◌then◌else◌}
use Rattle.std.specs.Fmt.{decimal}
use Rattle.std.specs.List.{list_any}
use Rattle.ctt_problem.specs.Problem.{Problem, clash, is_barred, is_blocked, is_unavailable}
use Rattle.ctt_problem.specs.declared.placed.Placed.{Placed}
use Rattle.ctt_rules.specs.Neighbours.{is_beside}
use Rattle.ctt_rules.specs.Penalty.{unseated}
use Rattle.ctt_views.specs.Grids.{is_of}
use Rattle.ctt_views.specs.Phrases.{amount}
use Rattle.ctt_views.specs.Weeks.{lectures_in}
use Rattle.ctt_views.specs.declared.grid.Grid.{Grid}
use Rattle.ctt_views.specs.declared.grid.Grid.TheVariants.{Curriculum, Teacher, Room, Course}
use Rattle.ctt_views.specs.declared.view.View.{View}

-- one of the lectures is of a course that clashes with this one's
abbrev pub clashes : Problem → List Placed → Placed → Bool
clashes i row l = list_any (λ m. clash i l.course m.course) row

-- one of the lectures is of another course, but in this one's room
abbrev pub shares_room : List Placed → Placed → Bool
shares_room row l = list_any (λ m. m.room == l.room && not (m.course == l.course)) row

-- a lecture of a grid is in a slot
abbrev pub stands_in : Problem → List (List Placed) → Grid → ℕ → Bool
stands_in i w g s = list_any (is_of i g) (lectures_in w s)

-- no lecture of the curriculum is in the slot before or after, on the same day; false in other
-- grids
abbrev pub is_alone : Problem → List (List Placed) → Grid → Placed → Bool
is_alone i w (Curriculum q) l = not (is_beside i (stands_in i w (Curriculum q)) l.slot)
is_alone i w (Teacher n) l = false
is_alone i w (Room r) l = false
is_alone i w (Course c) l = false

-- the text of a sign if it is shown, or else an empty text
unfoldable pub sign : Bool → List ℕ → List ℕ
sign shown text = if shown then text else []

-- the sign of what costs points, with the points, if there are any
unfoldable pub cost : ℕ → List ℕ → List ℕ
cost n text = if n == 0 then [] else codes " <i>" ++ (text ++ (codes ": " ++ (amount n (codes "point") ++ codes "</i>")))

-- the signs of the rules that a lecture breaks beside those in its slot
unfoldable pub hard_signs : Problem → List Placed → Placed → List ℕ
hard_signs i row l = sign (clashes i row l) (codes " <b>&#9650;&#160;conflict</b>")
    ++ (sign (is_unavailable i l.course l.slot) (codes " <b>&#9660;&#160;unavailable</b>")
    ++ (sign (shares_room row l) (codes " <b>&#9670;&#160;room taken</b>")
    ++ (sign (is_barred i l.course l.room) (codes " <b>&#9632;&#160;barred</b>")
    ++ sign (is_blocked i l.room l.slot) (codes " <b>&#9644;&#160;blocked</b>"))))

-- the sign of a room with too few seats for so many students, if there are any
unfoldable pub seats_sign : ℕ → List ℕ
seats_sign n = if n == 0 then []
    else codes " <i>&#9679;&#160;" ++ (decimal n ++ codes " too few seats</i>")

-- the signs of what a lecture costs, which a plain page leaves out
unfoldable pub cost_signs : Problem → List (List Placed) → View → Grid → Placed → List ℕ
cost_signs i w v g l = if v.plain then []
    else seats_sign (unseated i l)
    ++ cost (if is_alone i w g l then 2 else 0) (codes "&#9675;&#160;alone")

-- the signs of the rules that a lecture breaks, and of what it costs
unfoldable pub signs : Problem → List (List Placed) → View → Grid → Placed → List ℕ
signs i w v g l = hard_signs i (lectures_in w l.slot) l ++ cost_signs i w v g l
