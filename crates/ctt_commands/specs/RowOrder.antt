-- The order of the rows of a comparison.
use Rattle.std.specs.Prelude.{◌≡◌, ℕ, Bool, true, false, List, Result, Ok, Err, string_bytes}
use Rattle.std.specs.Cmp.Lexicographic.{slice_cmp}
use Rattle.std.specs.Global.{Global}
use Rattle.std.specs.List.Sorted.{IsPermutation, IsSorted, IsStable}
use Rattle.std.specs.Ordering.{nat_cmp, on, then_cmp}
use Rattle.std.specs.declared.cmp.Ordering.{Ordering}
use Rattle.std.specs.declared.string.String.{String}
use Rattle.ctt_commands.specs.declared.row.Row.{Row}
use Rattle.ctt_commands.specs.declared.row.Score.{Score}

-- 1 if the file is refused
abbrev pub class_of : Result Score (String Global) → ℕ
class_of (Ok score) = 0
class_of (Err fault) = 1

abbrev pub violations_of : Result Score (String Global) → ℕ
violations_of (Ok score) = score.violations
violations_of (Err fault) = 0

abbrev pub total_of : Result Score (String Global) → ℕ
total_of (Ok score) = score.total
total_of (Err fault) = 0

-- by instance, then those that are read before those that are refused, then by violations, then by
-- total, then by the name of the file
abbrev pub row_cmp : Row → Row → Ordering
row_cmp = then_cmp (then_cmp (then_cmp (then_cmp
    (on (λ row. row.number) nat_cmp)
    (on (λ row. class_of row.judged) nat_cmp))
    (on (λ row. violations_of row.judged) nat_cmp))
    (on (λ row. total_of row.judged) nat_cmp))
    (on (λ row. string_bytes row.file) (slice_cmp nat_cmp))

-- the rows in this order; equal ones are in the order in which they were
pub record AreBestFirst (found rows : List Row) : Type 0 where
  pub all : IsPermutation found rows
  pub ascending : IsSorted row_cmp rows
  pub stable : IsStable row_cmp found rows

-- the same if that is asked for
abbrev pub AreOrdered : Bool → List Row → List Row → Type 0
AreOrdered true found rows = AreBestFirst found rows
AreOrdered false found rows = rows ≡ found
