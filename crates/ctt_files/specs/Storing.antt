-- Files that are stored.
use Rattle.std.specs.Prelude.{◌≡◌, ◌≢◌, ℕ, List, Option, Some, None}
use Rattle.std.specs.Global.{Global}
use Rattle.std.specs.String.{string_bytes}
use Rattle.std.specs.declared.string.String.{String}
use Rattle.ctt_files.specs.Texts.{Held, Holds}

-- a file is given
abbrev pub IsGiven : Option (String Global) → Type 0
IsGiven None = ⊥
IsGiven (Some name) = Unit {0}

-- the name is not that of this file, if one is given
abbrev pub IsOther : Option (String Global) → List ℕ → Type 0
IsOther None other = Unit {0}
IsOther (Some name) other = other ≢ string_bytes name

-- all files are unchanged, except this one, if it is given
abbrev pub KeepOthers : Option (String Global) → Held → Held → Type 0
KeepOthers stored before after = (other : List ℕ) → IsOther stored other → after other ≡ before other

-- if a file is given, P holds of its bytes and all other files are unchanged; else all files are
abbrev pub Stores : Option (String Global) → Held → Held → (List ℕ → Type 0) → Type 0
Stores None before after P = after ≡ before
Stores (Some name) before after P = Holds after name P × KeepOthers (Some name) before after
