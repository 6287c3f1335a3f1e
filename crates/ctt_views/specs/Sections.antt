-- The findings: the first to mend, and all of them kind by kind.
use Rattle.std.specs.Prelude.{ℕ, ◌++◌, Bool, true, false, List, [], codes, filter, flat_map, if◌then◌else◌, take}
use Rattle.std.specs.Str.{bytes_eq}
use Rattle.ctt_problem.specs.Problem.{Problem, has_blocked}
use Rattle.ctt_rules.specs.Penalty.{total}
use Rattle.ctt_rules.specs.declared.cost.Cost.{Cost}
use Rattle.ctt_rules.specs.declared.hard.Hard.{Hard}
use Rattle.ctt_findings.specs.declared.finding.Finding.{Finding}
use Rattle.ctt_views.specs.Items.{finding_item}
use Rattle.ctt_views.specs.Phrases.{amount}
use Rattle.ctt_views.specs.Ranking.{kind_word}
use Rattle.ctt_views.specs.declared.view.View.{View}

-- the beginning of the section of a kind; the word that names the kind is also the id of its head
unfoldable pub section_start : List ℕ → List ℕ → ℕ → List ℕ → List ℕ
section_start kind title total noun = codes "<details><summary><h4 id='"
    ++ (kind
    ++ (codes "'>"
    ++ (title
    ++ (codes ": "
    ++ (amount total noun
    ++ codes "</h4></summary><ul>\n")))))

-- a finding is of a kind
abbrev pub is_of_kind : List ℕ → Finding → Bool
is_of_kind kind f = bytes_eq (kind_word f) kind

-- the section of a kind: its total, and its findings
unfoldable pub section : Problem → View → List ℕ → List Finding → List ℕ → List ℕ → ℕ → List ℕ
    → List ℕ
section i v days found kind title total noun = section_start kind title total noun
    ++ (flat_map (finding_item i v days) (filter (is_of_kind kind) found)
    ++ codes "</ul></details>\n")

-- the section of the lectures in blocked rooms, if any room is blocked in any slot
unfoldable pub blocked_section : Bool → Problem → View → List ℕ → List Finding → ℕ → List ℕ
blocked_section true i v days found count =
    section i v days found (codes "blocked") (codes "&#9644;&#160;blocked") count (codes "time")
blocked_section false i v days found count = []

-- what breaks hard rules
unfoldable pub broken_rules : Problem → View → List ℕ → List Finding → Hard → List ℕ
broken_rules i v days found hard = codes "<div><h3 id='hard'>Hard rules</h3>\n"
    ++ (section i v days found (codes "lectures") (codes "&#9661;&#160;lectures missing or surplus")
    hard.lectures (codes "lecture")
    ++ (section i v days found (codes "conflict") (codes "&#9650;&#160;conflict")
    hard.conflicts (codes "time")
    ++ (section i v days found (codes "availability") (codes "&#9660;&#160;unavailable")
    hard.availability (codes "time")
    ++ (section i v days found (codes "occupancy") (codes "&#9670;&#160;room taken")
    hard.occupancy (codes "time")
    ++ (section i v days found (codes "barred") (codes "&#9632;&#160;barred")
    hard.barred (codes "time")
    ++ blocked_section (has_blocked i) i v days found hard.blocked)))))

-- the head of what costs points, with their total
unfoldable pub costs_start : ℕ → List ℕ
costs_start n = codes "</div>\n<div><h3 id='costs'>Costs: "
    ++ (amount n (codes "point")
    ++ codes "</h3>\n")

-- what costs points
unfoldable pub costs : Problem → View → List ℕ → List Finding → Cost → List ℕ
costs i v days found cost = costs_start (total cost)
    ++ (section i v days found (codes "capacity") (codes "&#9679;&#160;too few seats")
    cost.capacity (codes "point")
    ++ (section i v days found (codes "days") (codes "&#9651;&#160;too few days")
    cost.days (codes "point")
    ++ (section i v days found (codes "compactness") (codes "&#9675;&#160;alone")
    cost.compactness (codes "point")
    ++ section i v days found (codes "stability") (codes "&#9671;&#160;several rooms")
    cost.stability (codes "point"))))

-- the first five findings
unfoldable pub first : Problem → View → List ℕ → List Finding → List ℕ
first i v days found = codes "<details><summary><h3 id='first'>To mend first</h3></summary><ol>\n"
    ++ (flat_map (finding_item i v days) (take 5 found)
    ++ codes "</ol></details>\n")

-- the ranked findings: the first of them, and then all, kind by kind in the order of the report
unfoldable pub all_sections : Problem → View → List ℕ → List Finding → Hard → Cost → List ℕ
all_sections i v days found hard cost = first i v days found
    ++ (broken_rules i v days found hard
    ++ costs i v days found cost)

-- the ranked findings; a plain page has only those that break hard rules
unfoldable pub sections : Problem → View → List ℕ → List Finding → Hard → Cost → List ℕ
sections i v days found hard cost = if v.plain then broken_rules i v days found hard
    else all_sections i v days found hard cost
