-- The rows of a comparison.
use Rattle.std.specs.Prelude.{◌≡◌, ◌↔◌, ◌+◌, ◌++◌, ◌∷◌, [], ℕ, IsTrue, List, Result, MatchResult, string_bytes}
use Rattle.std.specs.Global.{Global}
use Rattle.std.specs.declared.string.String.{String}
use Rattle.ctt_problem.specs.Problem.{Problem}
use Rattle.ctt_problem.specs.declared.placed.Placed.{Placed}
use Rattle.ctt_rules.specs.Hard.{Complete, Lawful, hard_counts}
use Rattle.ctt_rules.specs.Penalty.{penalty, total}
use Rattle.ctt_rules.specs.declared.hard.Hard.{Hard}
use Rattle.ctt_files.specs.declared.fault.Fault.{Fault}
use Rattle.ctt_commands.specs.FaultTexts.{fault_text}
use Rattle.ctt_commands.specs.Lists.{InTurn}
use Rattle.ctt_commands.specs.declared.group.Candidate.{Candidate}
use Rattle.ctt_commands.specs.declared.group.Group.{Group}
use Rattle.ctt_commands.specs.declared.group.Group.TheVariants.{Read, Refused}
use Rattle.ctt_commands.specs.declared.row.Row.{Row}
use Rattle.ctt_commands.specs.declared.row.Score.{Score}

-- how often all hard rules are broken, with missing and surplus lectures
abbrev pub violations : Hard → ℕ
violations hard = hard.lectures + hard.conflicts + hard.availability + hard.occupancy + hard.barred
    + hard.blocked

-- the score of a timetable
pub record IsScore (i : Problem) (t : List Placed) (score : Score) : Type 0 where
  pub counts : score.hard ≡ hard_counts i t
  pub sum : score.violations ≡ violations (hard_counts i t)
  pub costs : score.cost ≡ penalty i t
  pub whole : score.total ≡ total (penalty i t)
  pub is_lawful : IsTrue score.lawful ↔ Lawful i t
  pub is_complete : IsTrue score.complete ↔ Complete i t

-- the row is that of a file, with the number and the name of its instance
pub record IsRowOf (n : ℕ) (name solution : List ℕ) (row : Row) : Type 0 where
  pub number : row.number ≡ n
  pub instance : string_bytes row.instance ≡ name
  pub file : string_bytes row.file ≡ solution

-- the text of a fault
abbrev pub IsFaulty : Fault → Result Score (String Global) → Type 0
IsFaulty fault judged =
    MatchResult judged (λ score. ⊥) (λ text. string_bytes text ≡ fault_text fault)

-- the score of a file's solution, or the text of the fault for which the file is refused
abbrev pub IsJudgement : Problem → Candidate → Result Score (String Global) → Type 0
IsJudgement i candidate judged = MatchResult candidate.solution
    (λ timetable. MatchResult judged (IsScore i timetable.items) (λ text. ⊥))
    (λ fault. IsFaulty fault judged)

-- the row has this verdict on a file
abbrev pub IsRow : ℕ → List ℕ → Problem → Candidate → Row → Type 0
IsRow n instance i candidate row = IsRowOf n instance (string_bytes candidate.file) row
    × IsJudgement i candidate row.judged

-- the rows of the files of an instance; if it is refused, its fault is that of each of them
abbrev pub AreGroupRows : ℕ → Group → List Row → Type 0
AreGroupRows n (Read name i candidates) rows =
    InTurn (IsRow n (string_bytes name) i) candidates.items rows
AreGroupRows n (Refused name fault files) rows = InTurn
    (λ file row. IsRowOf n (string_bytes name) (string_bytes file) row × IsFaulty fault row.judged)
    files.items rows

-- the rows of all files: those of the first instance, then those of the second, and so on
abbrev pub AreAllRows : ℕ → List Group → List Row → Type 0
AreAllRows n [] rows = rows ≡ []
AreAllRows n (group ∷ groups) rows = (of_group others : List Row) × AreGroupRows n group of_group
    × AreAllRows (n + 1) groups others × (rows ≡ of_group ++ others)
