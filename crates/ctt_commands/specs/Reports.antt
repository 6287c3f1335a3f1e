-- The report of the command `check`, and its outcome.
use Rattle.std.specs.Prelude.{◌≡◌, ◌++◌, ℕ, Bool, true, false, List, [], Option, Some, None}
use Rattle.ctt_problem.specs.Problem.{Problem}
use Rattle.ctt_problem.specs.declared.placed.Placed.{Placed}
use Rattle.ctt_rules.specs.Hard.{Complete, Lawful}
use Rattle.ctt_findings.specs.ReportText.{IsCsvReport, IsExplainedJson, IsExplainedText, IsJsonReport, IsTextReport}
use Rattle.ctt_findings.specs.Tables.{findings_table}
use Rattle.ctt_views.specs.Sentences.{HasSentences}
use Rattle.ctt_words.specs.declared.job.CheckOptions.{CheckOptions}
use Rattle.ctt_files.specs.declared.outcome.Outcome.{Outcome}
use Rattle.ctt_files.specs.declared.outcome.Outcome.TheVariants.{Differs, Done, Incomplete, Unlawful}
use Rattle.ctt_commands.specs.declared.forms.TableForm.{TableForm}
use Rattle.ctt_commands.specs.declared.forms.TableForm.TheVariants.{Aligned, Csv, Json}

-- the lines of the report, with those of all findings if the Boolean is set
abbrev pub IsLines : Bool → Problem → List Placed → List ℕ → Type 0
IsLines false i t bytes = IsTextReport i t bytes
IsLines true i t bytes = IsExplainedText i t bytes

-- the sentences of all findings, if the Boolean is set
abbrev pub AreSentences : Bool → Problem → List Placed → List ℕ → Type 0
AreSentences false i t bytes = bytes ≡ []
AreSentences true i t bytes = HasSentences i t bytes

-- the report as text: its lines, and then the sentences
abbrev pub IsText : CheckOptions → Problem → List Placed → List ℕ → Type 0
IsText options i t bytes = (lines sentences : List ℕ) × IsLines options.explain i t lines × AreSentences options.sentences i t sentences
    × (bytes ≡ lines ++ sentences)

-- the report as CSV, or the table of all findings if the Boolean is set
abbrev pub IsCsv : Bool → Problem → List Placed → List ℕ → Type 0
IsCsv false i t bytes = IsCsvReport i t bytes
IsCsv true i t bytes = bytes ≡ findings_table i t

-- the report as a JSON object, with all findings if the Boolean is set
abbrev pub IsJson : Bool → Option (List ℕ) → Problem → List Placed → List ℕ → Type 0
IsJson false file i t bytes = IsJsonReport file i t bytes
IsJson true file i t bytes = IsExplainedJson file i t bytes

-- the name of a file, if it is asked for
abbrev pub file_if : Bool → List ℕ → Option (List ℕ)
file_if false file = None
file_if true file = Some file

-- the report on the timetable of a file
abbrev pub IsReport : TableForm → CheckOptions → List ℕ → Problem → List Placed → List ℕ → Type 0
IsReport Aligned options file i t bytes = IsText options i t bytes
IsReport Csv options file i t bytes = IsCsv options.explain i t bytes
IsReport Json options file i t bytes = IsJson options.explain (file_if options.name file) i t bytes

-- the outcome of a check: whether the timetable is lawful and complete, if that is asked for
abbrev pub IsJudged : Bool → Problem → List Placed → Outcome → Type 0
IsJudged false i t outcome = outcome ≡ Done
IsJudged true i t Done = Complete i t
IsJudged true i t Incomplete = Lawful i t × ¬ Complete i t
IsJudged true i t Unlawful = ¬ Lawful i t
IsJudged true i t Differs = ⊥
