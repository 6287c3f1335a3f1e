-- The seats of a desk, by their names.
use Rattle.std.specs.Prelude.{◌≡◌, ◌⊎◌, ◌<◌, ◌||◌, ℕ, Bool, false, true, List, [], ◌∷◌, codes, length}
use Rattle.std.specs.Global.{Global}
use Rattle.std.specs.List.{list_any}
use Rattle.std.specs.Str.{bytes_eq}
use Rattle.std.specs.String.{string_bytes}
use Rattle.std.specs.declared.string.String.{String}

-- one of the seats has this name
abbrev pub has_seat : List ℕ → List (String Global) → Bool
has_seat name seats = list_any (λ (seat : String Global). bytes_eq (string_bytes seat) name) seats

-- a seat is given twice
abbrev pub has_twice : List (String Global) → Bool
has_twice [] = false
has_twice (seat ∷ seats) = has_seat (string_bytes seat) seats || has_twice seats

-- standard input and output are a seat
abbrev pub has_standard : List (String Global) → Bool
has_standard seats = has_seat (codes "-") seats

-- there are too many seats, or one is given twice
abbrev pub AreBadSeats : List (String Global) → Type 0
AreBadSeats seats = (64 < length seats) ⊎ (has_twice seats ≡ true)
