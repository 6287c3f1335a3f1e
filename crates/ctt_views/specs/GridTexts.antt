-- Grids: days as columns, periods as lines.
use Rattle.std.specs.Prelude.{ℕ, zero, suc, ◌+◌, ◌++◌, List, [], codes}
use Rattle.std.specs.Fmt.{decimal}
use Rattle.ctt_problem.specs.Problem.{Problem, slot_of}
use Rattle.ctt_problem.specs.declared.placed.Placed.{Placed}
use Rattle.ctt_views.specs.Cells.{cell}
use Rattle.ctt_views.specs.Headings.{grid_start}
use Rattle.ctt_views.specs.Phrases.{day_text}
use Rattle.ctt_views.specs.declared.grid.Grid.{Grid}
use Rattle.ctt_views.specs.declared.view.View.{View}

-- the texts for the numbers below n, one after another
abbrev pub each_below : (ℕ → List ℕ) → ℕ → List ℕ
each_below f zero = []
each_below f (suc n) = each_below f n ++ f n

-- the head of the column of a day, with the desk's number, which is from 0, as its title
unfoldable pub day_head : List ℕ → ℕ → List ℕ
day_head names d = codes "<th scope='col' title='day "
    ++ (decimal d
    ++ (codes "'>"
    ++ (day_text names d
    ++ codes "</th>")))

-- the head of the line of a period, counted from 1, with the desk's number as its title
unfoldable pub line_start : ℕ → List ℕ
line_start p = codes "<tr><th scope='row' title='period "
    ++ (decimal p
    ++ (codes "'>"
    ++ (decimal (p + 1)
    ++ codes "</th>")))

-- the line of a period: a cell for each day
unfoldable pub line : Problem → List (List Placed) → View → Grid → ℕ → List ℕ
line i w v g p = line_start p
    ++ (each_below (λ d. cell i w v g (slot_of i d p)) i.days
    ++ codes "</tr>\n")

-- a grid: a column for each day, and a line for each period
unfoldable pub grid_text : Problem → List (List Placed) → View → List ℕ → Grid → List ℕ
grid_text i w v names g = grid_start i v g
    ++ (each_below (day_head names) i.days
    ++ (codes "</tr>\n"
    ++ (each_below (line i w v g) i.periods
    ++ codes "</table></div></section>\n")))
