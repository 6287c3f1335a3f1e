-- The columns of a comparison: the name of each, and what stands in its cells.
use Rattle.std.specs.Prelude.{ℕ, Bool, true, List, [], ◌∷◌, Result, Ok, Err, codes, decimal, filter, map, string_bytes, if◌then◌else◌}
use Rattle.std.specs.Global.{Global}
use Rattle.std.specs.declared.string.String.{String}
use Rattle.serde_json.specs.Data.{Data, boolean, null, number, string, unsigned}
use Rattle.ctt_commands.specs.declared.column.Cell.{Cell}
use Rattle.ctt_commands.specs.declared.column.Cell.TheVariants as cell
use Rattle.ctt_commands.specs.declared.column.Column.{Column}
use Rattle.ctt_commands.specs.declared.column.Column.TheVariants.{Availability, Barred, Blocked, Capacity, Compactness, Complete, Conflicts, Days, Fault, File, Instance, Lawful, Lectures, Occupancy, Stability, Total, Violations}
use Rattle.ctt_commands.specs.declared.column.Shape.{Shape}
use Rattle.ctt_commands.specs.declared.row.Row.{Row}
use Rattle.ctt_commands.specs.declared.row.Score.{Score}

-- ---- cells

-- what stands in a cell: a text, a count, yes or no, or nothing
pub data Content : Type 0 where
  text : List ℕ → Content
  count : ℕ → Content
  answer : Bool → Content
  nothing : Content

abbrev pub cell_content : Cell → Content
cell_content (cell.Text t) = text t.now
cell_content (cell.Count n) = count n
cell_content (cell.Answer b) = answer b
cell_content cell.Nothing = nothing

-- a cell as a word, or nothing
abbrev pub content_word : Content → List ℕ
content_word (text t) = t
content_word (count n) = decimal n
content_word (answer b) = if b then codes "yes" else codes "no"
content_word nothing = []

-- a cell as JSON
abbrev pub content_data : Content → Data
content_data (text t) = string t
content_data (count n) = number (unsigned n)
content_data (answer b) = boolean b
content_data nothing = null

-- ---- columns

-- the name of a column
abbrev pub column_name : Column → List ℕ
column_name Instance = codes "instance"
column_name File = codes "file"
column_name Lectures = codes "lectures"
column_name Conflicts = codes "conflicts"
column_name Availability = codes "availability"
column_name Occupancy = codes "occupancy"
column_name Barred = codes "barred"
column_name Blocked = codes "blocked"
column_name Violations = codes "violations"
column_name Capacity = codes "capacity"
column_name Days = codes "days"
column_name Compactness = codes "compactness"
column_name Stability = codes "stability"
column_name Total = codes "total"
column_name Lawful = codes "lawful"
column_name Complete = codes "complete"
column_name Fault = codes "fault"

-- what a score has in a column
abbrev pub counted : Column → Score → Content
counted Lectures score = count score.hard.lectures
counted Conflicts score = count score.hard.conflicts
counted Availability score = count score.hard.availability
counted Occupancy score = count score.hard.occupancy
counted Barred score = count score.hard.barred
counted Blocked score = count score.hard.blocked
counted Violations score = count score.violations
counted Capacity score = count score.cost.capacity
counted Days score = count score.cost.days
counted Compactness score = count score.cost.compactness
counted Stability score = count score.cost.stability
counted Total score = count score.total
counted Lawful score = answer score.lawful
counted Complete score = answer score.complete
counted other score = nothing

-- the same of a file, of which nothing is counted if it is refused
abbrev pub score_cell : Column → Result Score (String Global) → Content
score_cell column (Ok score) = counted column score
score_cell column (Err fault) = nothing

-- the fault of a file that is refused
abbrev pub fault_cell : Result Score (String Global) → Content
fault_cell (Ok score) = nothing
fault_cell (Err fault) = text (string_bytes fault)

-- the cell of a row in a column
abbrev pub cell_of : Row → Column → Content
cell_of row Instance = text (string_bytes row.instance)
cell_of row File = text (string_bytes row.file)
cell_of row Fault = fault_cell row.judged
cell_of row other = score_cell other row.judged

-- a table of this shape has the column
abbrev pub is_shown : Shape → Column → Bool
is_shown shape Instance = shape.instances
is_shown shape Blocked = shape.blocked
is_shown shape Fault = shape.faults
is_shown shape other = true

-- all columns, from the left
abbrev pub all_columns : List Column
all_columns = Instance ∷ File ∷ Lectures ∷ Conflicts ∷ Availability ∷ Occupancy ∷ Barred ∷ Blocked
    ∷ Violations ∷ Capacity ∷ Days ∷ Compactness ∷ Stability ∷ Total ∷ Lawful ∷ Complete ∷ Fault
    ∷ []

-- the columns of a table of this shape
abbrev pub columns_in : Shape → List Column
columns_in shape = filter (is_shown shape) all_columns
