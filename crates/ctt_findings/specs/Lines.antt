-- The facts of findings, and findings as lines of text.
use Rattle.std.specs.Prelude.{ℕ, List, [], ◌∷◌, codes, flat_map, map, slice_index_or}
use Rattle.std.specs.Fmt.{decimal}
use Rattle.ctt_line.specs.Lines.{line as line_of}
use Rattle.ctt_problem.specs.Problem.{Problem, day_of, period_of}
use Rattle.ctt_problem.specs.declared.placed.Placed.{Placed}
use Rattle.ctt_findings.specs.Findings.{findings}
use Rattle.ctt_findings.specs.declared.finding.Cause.{Cause}
use Rattle.ctt_findings.specs.declared.finding.Cause.TheVariants.{Teacher, Curriculum}
use Rattle.ctt_findings.specs.declared.finding.Finding.{Finding}
use Rattle.ctt_findings.specs.declared.finding.Finding.TheVariants.{Lectures, Conflict, Availability, Occupancy, Barred, Blocked, Capacity, Days, Compactness, Stability}

-- the value of a fact: a word or a number
pub data FactContent : Type 0 where
  word : List ℕ → FactContent
  number : ℕ → FactContent

-- a value, and the key that names it
pub record Fact : Type 0 where
  pub key : List ℕ
  pub value : FactContent

abbrev pub fact : List ℕ → FactContent → Fact
fact k v = record { key = k; value = v }

-- the facts of which findings consist
abbrev pub kind : List ℕ → Fact
kind name = fact (codes "kind") (word name)

abbrev pub course : Problem → ℕ → Fact
course i c = fact (codes "course") (word (slice_index_or i.course_names c []))

abbrev pub other_course : Problem → ℕ → Fact
other_course i c = fact (codes "other") (word (slice_index_or i.course_names c []))

abbrev pub room : Problem → ℕ → Fact
room i r = fact (codes "room") (word (slice_index_or i.room_names r []))

abbrev pub curriculum : Problem → ℕ → Fact
curriculum i q = fact (codes "curriculum") (word (slice_index_or i.curriculum_names q []))

abbrev pub day : Problem → ℕ → Fact
day i s = fact (codes "day") (number (day_of i s))

abbrev pub period : Problem → ℕ → Fact
period i s = fact (codes "period") (number (period_of i s))

abbrev pub points : ℕ → Fact
points n = fact (codes "points") (number n)

-- why two courses clash: what they have in common, and its name
abbrev pub cause_facts : Problem → Cause → List Fact
cause_facts i (Teacher n) = fact (codes "cause") (word (codes "teacher")) ∷ fact (codes "name") (word (slice_index_or i.teacher_names n [])) ∷ []
cause_facts i (Curriculum q) = fact (codes "cause") (word (codes "curriculum")) ∷ fact (codes "name") (word (slice_index_or i.curriculum_names q [])) ∷ []

-- the facts of a finding, in the order of its line
abbrev pub facts : Problem → Finding → List Fact
facts i (Lectures c placed stated) = kind (codes "lectures") ∷ course i c ∷ fact (codes "placed") (number placed) ∷ fact (codes "stated") (number stated) ∷ []
facts i (Conflict c d s why) = kind (codes "conflict") ∷ course i c ∷ other_course i d ∷ day i s ∷ period i s ∷ cause_facts i why
facts i (Availability l) = kind (codes "availability") ∷ course i l.course ∷ day i l.slot ∷ period i l.slot ∷ []
facts i (Occupancy l) = kind (codes "occupancy") ∷ room i l.room ∷ day i l.slot ∷ period i l.slot ∷ course i l.course ∷ []
facts i (Barred l) = kind (codes "barred") ∷ course i l.course ∷ room i l.room ∷ day i l.slot ∷ period i l.slot ∷ []
facts i (Blocked l) = kind (codes "blocked") ∷ course i l.course ∷ room i l.room ∷ day i l.slot ∷ period i l.slot ∷ []
facts i (Capacity l n) = kind (codes "capacity") ∷ course i l.course ∷ room i l.room ∷ day i l.slot ∷ period i l.slot ∷ points n ∷ []
facts i (Days c days minimum n) = kind (codes "days") ∷ course i c ∷ fact (codes "days") (number days) ∷ fact (codes "minimum") (number minimum) ∷ points n ∷ []
facts i (Compactness q l n) = kind (codes "compactness") ∷ curriculum i q ∷ course i l.course ∷ day i l.slot ∷ period i l.slot ∷ points n ∷ []
facts i (Stability c rooms n) = kind (codes "stability") ∷ course i c ∷ fact (codes "rooms") (number rooms) ∷ points n ∷ []

-- the text of a value
abbrev pub text_of : FactContent → List ℕ
text_of (word w) = w
text_of (number n) = decimal n

abbrev pub text_of_fact : Fact → List ℕ
text_of_fact f = text_of f.value

-- the line of a finding
abbrev pub line : Problem → Finding → List ℕ
line i finding = line_of (map text_of_fact (facts i finding))

-- the lines of a timetable's findings
abbrev pub explained : Problem → List Placed → List ℕ
explained i t = flat_map (line i) (findings i t)
