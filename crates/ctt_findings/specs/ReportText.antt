-- The texts of the report on a timetable.
use Rattle.std.specs.Prelude.{◌≡◌, ◌↔◌, ◌++◌, ◌∷◌, ℕ, Bool, true, false, IsTrue, List, [], Option, Some, None, codes, flat_map, map, if◌then◌else◌}
use Rattle.serde_json.specs.Data.{Data, Members, boolean, member, no_members, number, object, put, string, unsigned}
use Rattle.serde_json.specs.Written.{compact_text}
use Rattle.ctt_line.specs.Lines.{line as line_of}
use Rattle.ctt_problem.specs.Problem.{Problem, has_barred, has_blocked}
use Rattle.ctt_problem.specs.declared.placed.Placed.{Placed}
use Rattle.ctt_rules.specs.declared.cost.Cost.{Cost}
use Rattle.ctt_rules.specs.declared.hard.Hard.{Hard}
use Rattle.ctt_rules.specs.Hard.{Complete, Lawful, hard_counts}
use Rattle.ctt_rules.specs.Penalty.{penalty, total}
use Rattle.ctt_findings.specs.Csv.{csv}
use Rattle.ctt_findings.specs.Lines.{Fact, explained, fact, number as amount, text_of as text_in, word}
use Rattle.ctt_findings.specs.Objects.{all_objects}
use Rattle.ctt_findings.specs.Tables.{fact_row}

abbrev pub answer_word : Bool → List ℕ
answer_word b = if b then codes "yes" else codes "no"

abbrev pub count_fact : List ℕ → ℕ → Fact
count_fact key n = fact key (amount n)

-- a count that some reports have, or none
abbrev pub count_fact_if : Bool → List ℕ → ℕ → List Fact
count_fact_if true key n = count_fact key n ∷ []
count_fact_if false key n = []

-- the hard counts, with that of barred rooms if any room is barred, and with that of blocked rooms
-- if any room is blocked in any slot
unfoldable pub hard_facts : Problem → Hard → List Fact
hard_facts i hard = count_fact (codes "lectures") hard.lectures
    ∷ count_fact (codes "conflicts") hard.conflicts
    ∷ count_fact (codes "availability") hard.availability
    ∷ count_fact (codes "occupancy") hard.occupancy
    ∷ (count_fact_if (has_barred i) (codes "barred") hard.barred
    ++ count_fact_if (has_blocked i) (codes "blocked") hard.blocked)

-- the costs and their total
unfoldable pub cost_facts : Cost → List Fact
cost_facts cost = count_fact (codes "capacity") cost.capacity
    ∷ count_fact (codes "days") cost.days
    ∷ count_fact (codes "compactness") cost.compactness
    ∷ count_fact (codes "stability") cost.stability
    ∷ count_fact (codes "total") (total cost)
    ∷ []

-- the facts of the report on an instance; the Booleans say whether the timetable is lawful, and
-- whether it is complete
unfoldable pub report_facts : Problem → Hard → Cost → Bool → Bool → List Fact
report_facts i hard cost lawful complete = fact (codes "instance") (word i.name)
    ∷ (hard_facts i hard
    ++ (cost_facts cost
    ++ (fact (codes "lawful") (word (answer_word lawful))
    ∷ fact (codes "complete") (word (answer_word complete))
    ∷ [])))

-- a line with a key and its value
abbrev pub fact_line : Fact → List ℕ
fact_line f = line_of (f.key ∷ text_in f.value ∷ [])

-- the report on an instance, a line for each fact
abbrev pub text_of : Problem → Hard → Cost → Bool → Bool → List ℕ
text_of i hard cost lawful complete = flat_map fact_line (report_facts i hard cost lawful complete)

-- the keys of facts, as the names of columns
abbrev pub keys_of : List Fact → List (List ℕ)
keys_of fs = map (λ f. f.key) fs

-- facts as CSV, a column for each
abbrev pub facts_csv : List Fact → List ℕ
facts_csv fs = csv (keys_of fs ∷ fact_row (keys_of fs) fs ∷ [])

-- the report on an instance as CSV
abbrev pub csv_of : Problem → Hard → Cost → Bool → Bool → List ℕ
csv_of i hard cost lawful complete = facts_csv (report_facts i hard cost lawful complete)

-- the member for the name of the solution's file, if it is asked for, followed by the others
abbrev pub file_member : Option (List ℕ) → Members → Members
file_member None others = others
file_member (Some file) others = member (codes "file") (string file) others

-- the member for lectures in barred rooms, if any room is barred, followed by the others
abbrev pub barred_member : Bool → ℕ → Members → Members
barred_member true count others = member (codes "barred") (number (unsigned count)) others
barred_member false count others = others

-- the member for lectures in blocked rooms, if any room is blocked in any slot, followed by the
-- others
abbrev pub blocked_member : Bool → ℕ → Members → Members
blocked_member true count others = member (codes "blocked") (number (unsigned count)) others
blocked_member false count others = others

-- the members of the report with keys less than `file`, in key order, followed by others; the
-- Booleans say whether any room is barred, whether any is blocked, and whether the timetable is
-- complete
unfoldable pub members_before : Bool → Bool → Hard → Cost → Bool → Members → Members
members_before barred blocked hard cost complete others =
    member (codes "availability") (number (unsigned hard.availability))
    (barred_member barred hard.barred
    (blocked_member blocked hard.blocked
    (member (codes "capacity") (number (unsigned cost.capacity))
    (member (codes "compactness") (number (unsigned cost.compactness))
    (member (codes "complete") (boolean complete)
    (member (codes "conflicts") (number (unsigned hard.conflicts))
    (member (codes "days") (number (unsigned cost.days)) others)))))))

-- the members of the report with keys greater than `findings`, in key order
unfoldable pub members_behind : List ℕ → Hard → Cost → Bool → Members
members_behind name hard cost lawful =
    member (codes "instance") (string name)
    (member (codes "lawful") (boolean lawful)
    (member (codes "lectures") (number (unsigned hard.lectures))
    (member (codes "occupancy") (number (unsigned hard.occupancy))
    (member (codes "stability") (number (unsigned cost.stability))
    (member (codes "total") (number (unsigned (total cost))) no_members)))))

-- all members of the report on the solution in a file, without its findings
abbrev pub members_of : Option (List ℕ) → Problem → Hard → Cost → Bool → Bool → Members
members_of file i hard cost lawful complete = members_before (has_barred i) (has_blocked i) hard cost complete
    (file_member file (members_behind i.name hard cost lawful))

-- members with the name of a file, the hard counts and the costs put into others
abbrev pub with_file : Option (List ℕ) → Members → Members
with_file None others = others
with_file (Some file) others = put (codes "file") (string file) others

abbrev pub with_barred : Bool → ℕ → Members → Members
with_barred true count others = put (codes "barred") (number (unsigned count)) others
with_barred false count others = others

abbrev pub with_blocked : Bool → ℕ → Members → Members
with_blocked true count others = put (codes "blocked") (number (unsigned count)) others
with_blocked false count others = others

abbrev pub with_hard : Bool → Bool → Hard → Members → Members
with_hard barred blocked hard others =
    with_blocked blocked hard.blocked
    (with_barred barred hard.barred
    (put (codes "occupancy") (number (unsigned hard.occupancy))
    (put (codes "availability") (number (unsigned hard.availability))
    (put (codes "conflicts") (number (unsigned hard.conflicts))
    (put (codes "lectures") (number (unsigned hard.lectures)) others)))))

abbrev pub with_cost : Cost → Members → Members
with_cost cost others =
    put (codes "total") (number (unsigned (total cost)))
    (put (codes "stability") (number (unsigned cost.stability))
    (put (codes "compactness") (number (unsigned cost.compactness))
    (put (codes "days") (number (unsigned cost.days))
    (put (codes "capacity") (number (unsigned cost.capacity)) others))))

-- the report as a JSON object, with the name of the solution's file if there is one
unfoldable pub data_of : Option (List ℕ) → Problem → Hard → Cost → Bool → Bool → Data
data_of file i hard cost lawful complete = object (members_of file i hard cost lawful complete)

-- the report with its findings as a JSON object
unfoldable pub explained_data_of : Data → Option (List ℕ) → Problem → Hard → Cost → Bool → Bool → Data
explained_data_of found file i hard cost lawful complete = object
    (members_before (has_barred i) (has_blocked i) hard cost complete
    (file_member file
    (member (codes "findings") found (members_behind i.name hard cost lawful))))

-- the bytes are what `show` makes of the instance, of the hard counts and the costs, and of whether
-- the timetable is lawful and whether it is complete
pub record Shows (show : Problem → Hard → Cost → Bool → Bool → List ℕ) (i : Problem) (t : List Placed) (bytes : List ℕ) : Type 0 where
  pub lawful : Bool
  pub complete : Bool
  pub is_lawful : IsTrue lawful ↔ Lawful i t
  pub is_complete : IsTrue complete ↔ Complete i t
  pub shown : bytes ≡ show i (hard_counts i t) (penalty i t) lawful complete

-- the report as text
abbrev pub IsTextReport : Problem → List Placed → List ℕ → Type 0
IsTextReport = Shows text_of

-- the report as CSV
abbrev pub IsCsvReport : Problem → List Placed → List ℕ → Type 0
IsCsvReport = Shows csv_of

-- the object in compact form, followed by a line feed
abbrev pub json_of : Option (List ℕ) → Problem → Hard → Cost → Bool → Bool → List ℕ
json_of file i hard cost lawful complete =
    compact_text (data_of file i hard cost lawful complete) ++ codes "\n"

-- the report as JSON
abbrev pub IsJsonReport : Option (List ℕ) → Problem → List Placed → List ℕ → Type 0
IsJsonReport file = Shows (json_of file)

-- the report as text, followed by the lines of all findings
abbrev pub IsExplainedText : Problem → List Placed → List ℕ → Type 0
IsExplainedText i t = Shows (λ j hard cost lawful complete.
    text_of j hard cost lawful complete ++ explained i t) i t

-- the object with its findings in compact form, followed by a line feed
abbrev pub explained_json_of : Data → Option (List ℕ) → Problem → Hard → Cost → Bool → Bool → List ℕ
explained_json_of found file i hard cost lawful complete =
    compact_text (explained_data_of found file i hard cost lawful complete) ++ codes "\n"

-- the report as JSON with all findings
abbrev pub IsExplainedJson : Option (List ℕ) → Problem → List Placed → List ℕ → Type 0
IsExplainedJson file i t = Shows (explained_json_of (all_objects i t) file) i t
