-- What the command `compare` prints and reports: a row for each solution.
use Rattle.std.specs.Prelude.{◌≡◌, ◌∷◌, ◌&&◌, ◌||◌, [], ℕ, Bool, true, false, List, Result, Ok, Err, filter, map, string_bytes, if◌then◌else◌}
use Rattle.std.specs.Global.{Global}
use Rattle.std.specs.List.{list_all, list_any}
use Rattle.std.specs.declared.string.String.{String}
use Rattle.ctt_problem.specs.Problem.{has_blocked}
use Rattle.ctt_findings.specs.Csv.{csv}
use Rattle.ctt_files.specs.declared.outcome.Outcome.{Outcome}
use Rattle.ctt_files.specs.declared.outcome.Outcome.TheVariants.{Differs, Done, Incomplete, Unlawful}
use Rattle.ctt_files.specs.declared.output.Output.{Output}
use Rattle.ctt_words.specs.declared.job.CompareOptions.{CompareOptions}
use Rattle.ctt_commands.specs.Columns.{columns_in, column_name}
use Rattle.ctt_commands.specs.FaultTexts.{refusals}
use Rattle.ctt_commands.specs.Forms.{table_form}
use Rattle.ctt_commands.specs.RowOrder.{AreOrdered}
use Rattle.ctt_commands.specs.Rows.{AreAllRows}
use Rattle.ctt_commands.specs.Tables.{aligned, json, texts_of}
use Rattle.ctt_commands.specs.declared.column.Column.{Column}
use Rattle.ctt_commands.specs.declared.column.Shape.{Shape}
use Rattle.ctt_commands.specs.declared.forms.TableForm.{TableForm}
use Rattle.ctt_commands.specs.declared.forms.TableForm.TheVariants.{Aligned, Csv, Json}
use Rattle.ctt_commands.specs.declared.group.Group.{Group}
use Rattle.ctt_commands.specs.declared.group.Group.TheVariants.{Read, Refused}
use Rattle.ctt_commands.specs.declared.row.Row.{Row}
use Rattle.ctt_commands.specs.declared.row.Score.{Score}

-- ---- the table

-- any room of the instance is blocked in any slot
abbrev pub has_blocked_room : Group → Bool
has_blocked_room (Read name i candidates) = has_blocked i
has_blocked_room (Refused name fault files) = false

-- the faults are shown if that is asked for, but not in a table with aligned columns
abbrev pub has_faults : TableForm → Bool → Bool
has_faults Aligned asked = false
has_faults form asked = asked

-- the columns that a comparison has: the instances if there are several, and what is blocked if a
-- room is
abbrev pub shape_of : TableForm → Bool → Bool → List Group → Shape
shape_of form several faults groups = record {
  instances = several;
  blocked = list_any has_blocked_room groups;
  faults = has_faults form faults;
}

-- the file has a solution
abbrev pub has_score : Result Score (String Global) → Bool
has_score (Ok score) = true
has_score (Err fault) = false

-- the rows that are shown: without faults only those of solutions
abbrev pub shown_rows : Bool → List Row → List Row
shown_rows faults rows = filter (λ row. faults || has_score row.judged) rows

-- rows in a form, with the names of their columns
abbrev pub text_in : TableForm → List Column → List Row → List ℕ
text_in Aligned columns rows = aligned (map column_name columns) (map (texts_of columns) rows)
text_in Csv columns rows = csv (map column_name columns ∷ map (texts_of columns) rows)
text_in Json columns rows = json columns rows

abbrev pub table_of : TableForm → Shape → List Row → List ℕ
table_of form shape rows = text_in form (columns_in shape) (shown_rows shape.faults rows)

-- the table in a form, of the rows of these groups
abbrev pub table_by : TableForm → Bool → Bool → List Group → List Row → List ℕ
table_by form several faults groups rows =
    table_of form (shape_of form several faults groups) rows

-- ---- the outcome

abbrev pub is_complete : Result Score (String Global) → Bool
is_complete (Ok score) = score.complete
is_complete (Err fault) = false

abbrev pub is_lawful : Result Score (String Global) → Bool
is_lawful (Ok score) = score.lawful
is_lawful (Err fault) = false

-- the outcome of rows that have to be lawful and complete, or not
abbrev pub judged : Bool → List Row → Outcome
judged false rows = Done
judged true rows =
    if list_all (λ row. is_complete row.judged) rows then Done
    else (if list_all (λ row. is_lawful row.judged) rows then Incomplete else Unlawful)

-- the outcome, by the lines of the files that are refused and the rows
abbrev pub outcome_of : Bool → List ℕ → List Row → Outcome
outcome_of strict [] rows = judged strict rows
outcome_of strict (b ∷ bs) rows = Differs

-- the text has the rows of the files, and the lines of those that are refused are reported
pub record Compares (several : Bool) (options : CompareOptions) (groups : List Group)
    (output : Output) : Type 0 where
  pub found : List Row
  pub rows : List Row
  pub are_rows : AreAllRows 0 groups found
  pub ordered : AreOrdered options.sort found rows
  pub text : output.text.items
      ≡ table_by (table_form options.json options.csv) several options.faults groups rows
  pub refused : string_bytes output.diagnostics ≡ refusals options.point groups
  pub outcome : output.outcome ≡ outcome_of options.strict (refusals options.point groups) found
