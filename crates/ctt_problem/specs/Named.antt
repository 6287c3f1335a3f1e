-- Valid names: words, distinct within each list.
use Rattle.std.specs.Prelude.{◌≡◌, ◌<◌, ℕ, List, length, false, nat_le, ◌&&◌, ◌||◌, ◌==◌, Bool, [], ◌∷◌, ◌++◌}
use Rattle.std.specs.List.{AllByRecursion as Each}
use Rattle.ctt_problem.specs.Problem.{Problem, is_among}

-- the names are distinct, and none is among the earlier ones
abbrev pub AreNew : List (List ℕ) → List (List ℕ) → Type 0
AreNew before [] = Unit {0}
AreNew before (name ∷ names) = (is_among before name ≡ false) × AreNew (before ++ name ∷ []) names

abbrev pub AreDistinct : List (List ℕ) → Type 0
AreDistinct names = AreNew [] names

-- blanks are the bytes 9 to 13 and 32
unfoldable pub is_blank : ℕ → Bool
is_blank b = (nat_le 9 b && nat_le b 13) || (b == 32)

-- one or more bytes, none of them blank
abbrev pub IsWord : List ℕ → Type 0
IsWord word = (0 < length word) × Each (λ b. is_blank b ≡ false) word

-- the names are words, and distinct
abbrev pub AreNames : List (List ℕ) → Type 0
AreNames names = AreDistinct names × Each IsWord names

-- all names of the instance are valid
pub record IsNamed (i : Problem) : Type 0 where
  pub name : IsWord i.name
  pub courses : AreNames i.course_names
  pub teachers : AreNames i.teacher_names
  pub rooms : AreNames i.room_names
  pub curricula : AreNames i.curriculum_names
