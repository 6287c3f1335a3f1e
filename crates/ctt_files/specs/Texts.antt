-- Which texts are valid.
use Rattle.std.specs.Prelude.{◌≡◌, ℕ, Bool, List, [], ◌∷◌, Option, Some, None, IfSome}
use Rattle.std.specs.Global.{Global}
use Rattle.std.specs.Str.{IsUtf8}
use Rattle.std.specs.String.{string_bytes}
use Rattle.std.specs.declared.string.String.{String}
use Rattle.ctt_text.specs.BarredText.{BarSpells}
use Rattle.ctt_text.specs.BlockedText.{BlockSpells}
use Rattle.ctt_text.specs.InstanceText.{Spells}
use Rattle.ctt_problem.specs.Problem.{Problem}
use Rattle.ctt_text.specs.SolutionText.{SolSpells}
use Rattle.ctt_text.specs.Words.{words}
use Rattle.ctt_problem.specs.declared.placed.Placed.{Placed}
use Rattle.ctt_files.specs.declared.sides.Sides.{Sides}

-- the bytes of files by name, if they are known
abbrev pub Held : Type 0
Held = List ℕ → Option (List ℕ)

-- P holds of the bytes of this file, if they are known
abbrev pub Holds : Held → String Global → (List ℕ → Type 0) → Type 0
Holds held name P = IfSome (held (string_bytes name)) P

-- the files hold these texts, one each, as far as their bytes are known
abbrev pub HoldInTurn : Held → List (String Global) → List (List ℕ) → Type 0
HoldInTurn held [] [] = Unit {0}
HoldInTurn held [] (text ∷ texts) = ⊥
HoldInTurn held (name ∷ names) [] = ⊥
HoldInTurn held (name ∷ names) (text ∷ texts) = Holds held name (λ bytes. text ≡ bytes) × HoldInTurn held names texts

-- the text is UTF-8, and spells the instance
pub record IsInstanceText (text : List ℕ) (problem : Problem) : Type 0 where
  pub is_text : IsUtf8 text
  pub spells : Spells (words text) problem

-- the text is UTF-8 and spells a table of barred rooms; `read` with this table is the instance
pub record IsBarredText (read : Problem) (text : List ℕ) (problem : Problem) : Type 0 where
  pub is_text : IsUtf8 text
  pub table : List Bool
  pub spells : BarSpells read (words text) table
  pub makes : problem ≡ record read { barred = table }

-- the text is UTF-8 and spells tables of what is blocked, of courses and of rooms; `read` with these
-- tables is the instance
pub record IsBlockedText (read : Problem) (text : List ℕ) (problem : Problem) : Type 0 where
  pub is_text : IsUtf8 text
  pub closed : List Bool
  pub blocked : List Bool
  pub spells : BlockSpells read (words text) closed blocked
  pub makes : problem ≡ record read { closed = closed; blocked = blocked }

-- the text is UTF-8, and spells the timetable as a solution of the instance
pub record IsSolutionText (problem : Problem) (text : List ℕ) (timetable : List Placed) : Type 0 where
  pub is_text : IsUtf8 text
  pub spells : SolSpells problem (words text) timetable

-- the text is not valid for any instance
abbrev pub IsNoInstance : List ℕ → Type 0
IsNoInstance text = (problem : Problem) → ¬ IsInstanceText text problem

-- the text is not valid for barred rooms of the instance
abbrev pub IsNoBarred : Problem → List ℕ → Type 0
IsNoBarred read text = (problem : Problem) → ¬ IsBarredText read text problem

-- the parsed instance with the barred rooms from the file, or unchanged if no file is given
abbrev pub IsBarredBy : Held → Option (String Global) → Problem → Problem → Type 0
IsBarredBy held None read problem = problem ≡ read
IsBarredBy held (Some name) read problem = Holds held name (λ text. IsBarredText read text problem)

-- the text is not valid for what is blocked in the instance
abbrev pub IsNoBlocked : Problem → List ℕ → Type 0
IsNoBlocked read text = (problem : Problem) → ¬ IsBlockedText read text problem

-- the parsed instance with what the file says is blocked, or unchanged if no file is given
abbrev pub IsBlockedBy : Held → Option (String Global) → Problem → Problem → Type 0
IsBlockedBy held None read problem = problem ≡ read
IsBlockedBy held (Some name) read problem = Holds held name (λ text. IsBlockedText read text problem)

-- the parsed instance with what its side files say: the barred rooms, and then what is blocked
pub record HasSides (held : Held) (sides : Sides) (read : Problem) (problem : Problem) : Type 0 where
  pub barred : Problem
  pub is_barred : IsBarredBy held sides.barred read barred
  pub is_blocked : IsBlockedBy held sides.blocked barred problem

-- the instance in a file, with what its side files say
pub record IsInstanceIn (held : Held) (instance : String Global) (sides : Sides) (problem : Problem) : Type 0 where
  pub read : Problem
  pub is_instance : Holds held instance (λ text. IsInstanceText text read)
  pub has_sides : HasSides held sides read problem

-- the text is not valid for a solution of the instance
abbrev pub IsNoSolution : Problem → List ℕ → Type 0
IsNoSolution problem text = (timetable : List Placed) → ¬ IsSolutionText problem text timetable

-- the lectures that a desk opens with: those of the solution in the file, or none if no file is
-- given
abbrev pub IsStart : Problem → Held → Option (String Global) → List Placed → Type 0
IsStart problem held None lectures = lectures ≡ []
IsStart problem held (Some name) lectures = Holds held name (λ text. IsSolutionText problem text lectures)
