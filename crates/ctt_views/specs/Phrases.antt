-- Phrases: names, amounts, days and times.
use Rattle.std.specs.Prelude.{ℕ, ◌+◌, ◌==◌, ◌++◌, List, [], codes, length, slice_get, unwrap_or, if◌then◌else◌}
use Rattle.std.specs.Fmt.{decimal}
use Rattle.std.specs.List.{slice_split}
use Rattle.ctt_views.specs.Escape.{escaped}
use Rattle.ctt_views.specs.declared.phrases.Markup.{Markup}
use Rattle.ctt_views.specs.declared.phrases.Markup.TheVariants.{Html, Plain}
use Rattle.ctt_views.specs.declared.phrases.Name.{Name}
use Rattle.ctt_views.specs.declared.phrases.When.{When}

-- a name, in an element of its own
unfoldable pub named : List ℕ → List ℕ
named name = codes "<bdi>" ++ (escaped name ++ codes "</bdi>")

-- a name in a text that is HTML, or in plain text
unfoldable pub name_as : Markup → List ℕ → List ℕ
name_as Html name = named name
name_as Plain name = name

-- the ending of a noun after a number
abbrev pub ending : ℕ → List ℕ
ending n = if n == 1 then [] else codes "s"

-- a number of things
unfoldable pub amount : ℕ → List ℕ → List ℕ
amount n noun = decimal n ++ (codes " " ++ (noun ++ ending n))

-- the points of a finding, if it has any
unfoldable pub price : ℕ → List ℕ
price n = if n == 0 then [] else codes "<i>" ++ (amount n (codes "point") ++ codes "</i> ")

-- the name of a day, if commas separate the names; it is empty if there are too few
abbrev pub day_name : List ℕ → ℕ → List ℕ
day_name names d = unwrap_or (slice_get (slice_split (λ b. b == 44) names) d) []

-- a day: its name, or else its number, counted from 1
unfoldable pub day_as : Markup → List ℕ → ℕ → List ℕ
day_as markup names d = if length (day_name names d) == 0
    then codes "day " ++ decimal (d + 1)
    else name_as markup (day_name names d)

-- a day as HTML
unfoldable pub day_text : List ℕ → ℕ → List ℕ
day_text names d = day_as Html names d

-- a day, and a period counted from 1
unfoldable pub when : Markup → List ℕ → ℕ → ℕ → List ℕ
when markup names d p = day_as markup names d ++ (codes ", period " ++ decimal (p + 1))

-- the texts of a name and of a time
abbrev pub name_text : Name → List ℕ
name_text n = name_as n.markup n.name.now

abbrev pub time_text : When → List ℕ
time_text w = when w.markup w.names.now w.day w.period
