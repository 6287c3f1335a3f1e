-- The report on a timetable as a table.
use Rattle.std.specs.Prelude.{ℕ, Bool, true, false, ◌==◌, ◌++◌, List, [], codes, if◌then◌else◌}
use Rattle.std.specs.Fmt.{decimal}
use Rattle.ctt_problem.specs.Problem.{Problem, has_barred, has_blocked}
use Rattle.ctt_rules.specs.Penalty.{total}
use Rattle.ctt_rules.specs.declared.cost.Cost.{Cost}
use Rattle.ctt_rules.specs.declared.hard.Hard.{Hard}

-- a line with a key and its value
unfoldable pub row : List ℕ → List ℕ → List ℕ
row key text = codes "<tr><th scope='row'>" ++ (key ++ (codes "</th><td>" ++ (text ++ codes "</td></tr>\n")))

-- the line of a count; if it is not zero, it has the sign of its kind and links to the findings
unfoldable pub count_row : List ℕ → List ℕ → List ℕ → ℕ → List ℕ
count_row key kind sign count = row key (if count == 0 then codes "0"
    else codes "<a href='#" ++ (kind ++ (codes "'>" ++ (sign ++ (codes " " ++ (decimal count ++ codes "</a>"))))))

unfoldable pub total_row : ℕ → List ℕ
total_row count = row (codes "total") (decimal count)

unfoldable pub answer_row : List ℕ → Bool → List ℕ
answer_row key answer = row key (if answer then codes "yes" else codes "<b>&#10007; no</b>")

-- the line with the count of lectures in barred rooms, if any room is barred
unfoldable pub barred_row : Bool → ℕ → List ℕ
barred_row true count = count_row (codes "barred") (codes "barred") (codes "&#9632;") count
barred_row false count = []

-- the line with the count of lectures in blocked rooms, if any room is blocked in any slot
unfoldable pub blocked_row : Bool → ℕ → List ℕ
blocked_row true count = count_row (codes "blocked") (codes "blocked") (codes "&#9644;") count
blocked_row false count = []

-- the lines of the hard counts
unfoldable pub hard_rows : Problem → Hard → List ℕ
hard_rows i hard = count_row (codes "lectures") (codes "lectures") (codes "&#9661;") hard.lectures
    ++ (count_row (codes "conflicts") (codes "conflict") (codes "&#9650;") hard.conflicts
    ++ (count_row (codes "availability") (codes "availability") (codes "&#9660;") hard.availability
    ++ (count_row (codes "occupancy") (codes "occupancy") (codes "&#9670;") hard.occupancy
    ++ (barred_row (has_barred i) hard.barred
    ++ blocked_row (has_blocked i) hard.blocked))))

-- the lines of the four costs and their total
unfoldable pub cost_rows : Cost → List ℕ
cost_rows cost = count_row (codes "capacity") (codes "capacity") (codes "&#9679;") cost.capacity
    ++ (count_row (codes "days") (codes "days") (codes "&#9651;") cost.days
    ++ (count_row (codes "compactness") (codes "compactness") (codes "&#9675;") cost.compactness
    ++ (count_row (codes "stability") (codes "stability") (codes "&#9671;") cost.stability
    ++ total_row (total cost))))

-- the lines of the costs, which a plain page leaves out
unfoldable pub shown_costs : Bool → Cost → List ℕ
shown_costs true cost = []
shown_costs false cost = cost_rows cost

-- the report on an instance; the Booleans say whether the page is plain, and whether the timetable
-- is lawful and complete
unfoldable pub report : Bool → Problem → Hard → Cost → Bool → Bool → List ℕ
report plain i hard cost lawful complete =
    codes "<details><summary><h3 id='report'>Report</h3></summary><table>\n"
    ++ (hard_rows i hard
    ++ (shown_costs plain cost
    ++ (answer_row (codes "lawful") lawful
    ++ (answer_row (codes "complete") complete
    ++ codes "</table></details>\n"))))
