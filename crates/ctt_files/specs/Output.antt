-- What a writer takes.
use Rattle.std.specs.Prelude.{ℕ, ◌≡◌, ◌<◌, ◌++◌, List, length, take, Option}
use Rattle.std.specs.Io.KnownBytes.{Appends}

-- known bytes grow by a proper prefix of bs
abbrev pub AppendsPart : Option (List ℕ) → Option (List ℕ) → List ℕ → Type 0
AppendsPart old new bs = (k : ℕ) × (k < length bs) × Appends old new (take k bs)

-- known bytes grow by a prefix of bs, which may be empty or all of bs
abbrev pub AppendsFront : Option (List ℕ) → Option (List ℕ) → List ℕ → Type 0
AppendsFront old new bs = (k : ℕ) × Appends old new (take k bs)

-- a prefix of the text was written, and the rest is still to be written
pub record WritesOut (before after : Option (List ℕ)) (text left : List ℕ) : Type 0 where
  pub prefix : List ℕ
  pub taken : Appends before after prefix
  pub all : text ≡ prefix ++ left
