-- The head of the page: its title, the verdict and the cost.
use Rattle.std.specs.Prelude.{ℕ, ◌++◌, Bool, List, [], codes, if◌then◌else◌, unwrap_or}
use Rattle.std.specs.Path.{path_file_name}
use Rattle.ctt_views.specs.Escape.{escaped}
use Rattle.ctt_views.specs.Phrases.{amount}

-- the own name of a file, without the folders before it
abbrev pub own_name : List ℕ → List ℕ
own_name path = unwrap_or (path_file_name path) path

-- what precedes the verdict: the HTML head with the style, a link over what precedes the grids, and
-- the names of the instance and of the solution as title
unfoldable pub page_head : List ℕ → List ℕ → List ℕ → List ℕ
page_head look name file = codes "<!DOCTYPE html>\n<html lang='en'><head><meta charset='utf-8'>\n<meta name='viewport' content='width=device-width, initial-scale=1'>\n<title>"
    ++ (escaped name
    ++ (codes ": "
    ++ (escaped file
    ++ (codes "</title><style>"
    ++ (look
    ++ (codes "</style></head>\n<body><a id='skip' href='#grids'>Skip to the grids</a>\n<header><h1><bdi>"
    ++ (escaped name
    ++ (codes "</bdi>: <bdi>"
    ++ (escaped file
    ++ codes "</bdi></h1>\n")))))))))

-- whether a timetable is lawful, and whether it is complete
abbrev pub lawful_text : Bool → List ℕ
lawful_text lawful = if lawful then codes "lawful"
    else codes "<b>&#10007;&#160;not lawful</b>"

abbrev pub complete_text : Bool → List ℕ
complete_text complete = if complete then codes "complete"
    else codes "<b>&#10007;&#160;not complete</b>"

-- what a timetable costs, which a plain page leaves out
unfoldable pub cost_text : Bool → ℕ → List ℕ
cost_text plain n = if plain then [] else codes ": " ++ amount n (codes "point")

-- the verdict and the cost, in one line
unfoldable pub verdict : Bool → ℕ → Bool → Bool → List ℕ
verdict plain n lawful complete = codes "<p id='verdict'>"
    ++ (lawful_text lawful
    ++ (codes ", "
    ++ (complete_text complete
    ++ (cost_text plain n
    ++ codes "</p></header>\n"))))
