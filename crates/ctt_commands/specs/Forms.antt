-- The form of a report or of a comparison, by the options that are given.
use Rattle.std.specs.Prelude.{Bool, true, false}
use Rattle.ctt_commands.specs.declared.forms.TableForm.{TableForm}
use Rattle.ctt_commands.specs.declared.forms.TableForm.TheVariants as table

-- the form, by whether JSON and CSV are asked for
abbrev pub table_form : Bool → Bool → TableForm
table_form true csv = table.Json
table_form false true = table.Csv
table_form false false = table.Aligned
