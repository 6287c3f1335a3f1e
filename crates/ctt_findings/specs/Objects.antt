-- Findings as JSON objects.
use Rattle.std.specs.Prelude.{List, [], ◌∷◌}
use Rattle.serde_json.specs.Data.{Data, Items, Members, array, item, no_items, no_members, number as amount, object, put, string, unsigned}
use Rattle.ctt_problem.specs.Problem.{Problem}
use Rattle.ctt_problem.specs.declared.placed.Placed.{Placed}
use Rattle.ctt_findings.specs.Findings.{findings}
use Rattle.ctt_findings.specs.Lines.{Fact, FactContent, facts, number, word}
use Rattle.ctt_findings.specs.declared.finding.Finding.{Finding}

-- a value as JSON
abbrev pub value_of : FactContent → Data
value_of (word w) = string w
value_of (number n) = amount (unsigned n)

-- members with facts added, each under its key, in ascending order of the keys
abbrev pub with_facts : List Fact → Members → Members
with_facts [] ms = ms
with_facts (f ∷ fs) ms = with_facts fs (put f.key (value_of f.value) ms)

-- the object of a finding
abbrev pub object_of : Problem → Finding → Data
object_of i f = object (with_facts (facts i f) no_members)

-- the objects of findings, and of all findings of a timetable
abbrev pub objects_of : Problem → List Finding → Items
objects_of i [] = no_items
objects_of i (f ∷ fs) = item (object_of i f) (objects_of i fs)

abbrev pub all_objects : Problem → List Placed → Data
all_objects i t = array (objects_of i (findings i t))
