-- What the program prints of the files of a page, and why it refuses them.
use Rattle.std.specs.Prelude.{◌≡◌, ◌⊎◌, ◌++◌, ℕ, List, None, Some, false}
use Rattle.std.specs.Global.{Global}
use Rattle.std.specs.String.{string_bytes}
use Rattle.std.specs.declared.string.String.{String}
use Rattle.ctt_problem.specs.Problem.{Problem}
use Rattle.ctt_problem.specs.declared.placed.Placed.{Placed}
use Rattle.ctt_files.specs.Refusals.{IsOfInstanceOr, IsOfSolution}
use Rattle.ctt_files.specs.Texts.{Held, Holds, IsInstanceIn, IsSolutionText}
use Rattle.ctt_files.specs.declared.fault.Fault.{Fault}
use Rattle.ctt_files.specs.declared.fault.Fault.TheVariants.{Contents, Machine, Usage}
use Rattle.ctt_files.specs.declared.fault.MachineFault.{MachineFault}
use Rattle.ctt_files.specs.declared.fault.MachineFault.TheVariants.{NoMemory, TooLong}
use Rattle.ctt_findings.specs.ReportText.{IsExplainedText, IsJsonReport, IsTextReport}
use Rattle.ctt_findings.specs.Tables.{findings_table}
use Rattle.ctt_views.specs.Page.{IsPage}
use Rattle.ctt_views.specs.Sentences.{HasSentences}
use Rattle.ctt_web.specs.Asked.{AreNames, IsNoName, IsUnnamed, held_of, part_of}
use Rattle.ctt_web.specs.declared.asked.Asked.{Asked}
use Rattle.ctt_web.specs.declared.names.Names.{Names}
use Rattle.ctt_web.specs.declared.wanted.Wanted.{Wanted}
use Rattle.ctt_web.specs.declared.wanted.Wanted.TheVariants.{Findings, Page, Report, Row, Sentences}

-- ---- what is printed

-- the lines of the report, and then the sentences of all findings
abbrev pub HasSentenceLines : Problem → List Placed → List ℕ → Type 0
HasSentenceLines i t text = (lines sentences : List ℕ) × IsTextReport i t lines × HasSentences i t sentences
    × (text ≡ lines ++ sentences)

-- the text is what is wanted of the timetable of a file
abbrev pub Shows : Wanted → List ℕ → List ℕ → Problem → List Placed → List ℕ → Type 0
Shows Report file days i t text = IsExplainedText i t text
Shows Sentences file days i t text = HasSentenceLines i t text
Shows Row file days i t text = IsJsonReport (Some file) i t text
Shows Findings file days i t text = text ≡ findings_table i t
Shows Page file days i t text = IsPage file days (record { selection = None; plain = false; grids = None }) i t text

-- the text is what is wanted of the timetable that this file has of the instance
pub record AnswersOn (wanted : Wanted) (held : Held) (solution : String Global) (days : List ℕ) (problem : Problem) (text : List ℕ) : Type 0 where
  pub timetable : List Placed
  pub is_solution : Holds held solution (λ bytes. IsSolutionText problem bytes timetable)
  pub shows : Shows wanted (string_bytes solution) days problem timetable text

-- the text is what is wanted of the files of these names
pub record AnswersIn (wanted : Wanted) (held : Held) (names : Names) (days : List ℕ) (text : List ℕ) : Type 0 where
  pub problem : Problem
  pub is_instance : IsInstanceIn held names.instance names.sides problem
  pub answers : AnswersOn wanted held names.solution days problem text

-- the text is what is wanted of the files that a page passes
pub record Answers (wanted : Wanted) (bytes : List ℕ) (asked : Asked) (text : List ℕ) : Type 0 where
  pub names : Names
  pub are_names : AreNames bytes asked names
  pub answers : AnswersIn wanted (held_of bytes asked) names (part_of bytes asked.days) text

-- ---- why it is refused

-- a file in memory is refused for its contents, for its length, or for want of memory; and a name
-- that is no text is refused
abbrev pub IsMetByMachine : MachineFault → Type 0
IsMetByMachine (TooLong name) = Unit {0}
IsMetByMachine NoMemory = Unit {0}
IsMetByMachine _ = ⊥

abbrev pub IsMet : Fault → Type 0
IsMet (Contents met) = Unit {0}
IsMet (Usage met) = Unit {0}
IsMet (Machine met) = IsMetByMachine met

-- the fault comes from the files of these names, in the order in which `check` reads them
pub record IsOfNamed (bytes : List ℕ) (asked : Asked) (fault : Fault) : Type 0 where
  pub names : Names
  pub are_names : AreNames bytes asked names
  pub cause : IsOfInstanceOr (IsOfSolution names.solution) (held_of bytes asked) names.instance names.sides fault

-- the fault comes from a name, or from the files, or memory ran out
abbrev pub IsRefused : List ℕ → Asked → Fault → Type 0
IsRefused bytes asked fault = IsUnnamed bytes asked fault
    ⊎ (IsNoName (part_of bytes asked.days) fault ⊎ (IsOfNamed bytes asked fault ⊎ (fault ≡ Machine NoMemory)))
