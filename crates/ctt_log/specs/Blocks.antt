-- Blocks of words, one after another.
use Rattle.std.specs.Prelude.{ℕ, ◌≡◌, List, [], ◌∷◌, Ok}
use Rattle.ctt_text.specs.Left.{Left}
use Rattle.ctt_text.specs.Forms.{Form}
use Rattle.ctt_text.specs.Reading.{reading}

-- the form parses these values one after another, and then `rest` is left
abbrev pub AreBlocks : {F A : Type 0} → (ℕ → F) → Form F A → Left → List A → Left → Type 0
AreBlocks missing form left [] rest = left ≡ rest
AreBlocks missing form left (a ∷ more) rest = (mid : Left) × (reading missing form left ≡ Ok (a, mid)) × AreBlocks missing form mid more rest
