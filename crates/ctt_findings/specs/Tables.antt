-- Facts as tables in CSV: a row for each list of facts, with each value in the column of its key.
use Rattle.std.specs.Prelude.{ℕ, List, [], ◌∷◌, Option, Some, None, codes, map, slice_index_or}
use Rattle.std.specs.List.{find}
use Rattle.std.specs.Str.{bytes_eq}
use Rattle.ctt_problem.specs.Problem.{Problem}
use Rattle.ctt_problem.specs.declared.placed.Placed.{Placed}
use Rattle.ctt_findings.specs.Csv.{csv}
use Rattle.ctt_findings.specs.Findings.{findings}
use Rattle.ctt_findings.specs.Lines.{Fact, course, curriculum, day, fact, facts, kind, other_course, period, text_of, word}
use Rattle.ctt_findings.specs.declared.finding.Cause.{Cause}
use Rattle.ctt_findings.specs.declared.finding.Cause.TheVariants.{Teacher, Curriculum}
use Rattle.ctt_findings.specs.declared.finding.Finding.{Finding}
use Rattle.ctt_findings.specs.declared.finding.Finding.TheVariants.{Conflict}

-- the text of a fact's value, or an empty text
abbrev pub text_of_found : Option Fact → List ℕ
text_of_found None = []
text_of_found (Some f) = text_of f.value

-- the value of the fact with this key, or an empty text if there is none
abbrev pub value_at : List Fact → List ℕ → List ℕ
value_at fs key = text_of_found (find (λ f. bytes_eq f.key key) fs)

abbrev pub fact_row : List (List ℕ) → List Fact → List (List ℕ)
fact_row columns fs = map (value_at fs) columns

-- ---- the table of the findings

unfoldable pub finding_columns : List (List ℕ)
finding_columns = codes "kind" ∷ codes "curriculum" ∷ codes "teacher" ∷ codes "course" ∷ codes "other"
    ∷ codes "room" ∷ codes "day" ∷ codes "period" ∷ codes "placed" ∷ codes "stated" ∷ codes "days"
    ∷ codes "minimum" ∷ codes "rooms" ∷ codes "points" ∷ []

-- why two courses clash: the teacher or the curriculum that they have in common
abbrev pub shared_fact : Problem → Cause → Fact
shared_fact i (Teacher n) = fact (codes "teacher") (word (slice_index_or i.teacher_names n []))
shared_fact i (Curriculum q) = curriculum i q

-- the facts of a finding as they stand in its row: those of its line, in which what two courses have
-- in common is under its own key
abbrev pub row_facts : Problem → Finding → List Fact
row_facts i (Conflict c d s why) = kind (codes "conflict") ∷ course i c ∷ other_course i d ∷ day i s ∷ period i s ∷ shared_fact i why ∷ []
row_facts i other = facts i other

-- the table of a timetable's findings, a row for each, in the order of their lines
abbrev pub findings_table : Problem → List Placed → List ℕ
findings_table i t = csv (finding_columns ∷ map (λ f. fact_row finding_columns (row_facts i f)) (findings i t))
