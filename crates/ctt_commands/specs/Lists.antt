-- Two lists side by side.
use Rattle.std.specs.Prelude.{List, [], ◌∷◌}

-- R holds of the first of both lists, of the second of both, and so on, and they are as long
abbrev pub InTurn : {A B : Type 0} → (A → B → Type 0) → List A → List B → Type 0
InTurn R [] [] = Unit {0}
InTurn R [] (b ∷ bs) = ⊥
InTurn R (a ∷ more) [] = ⊥
InTurn R (a ∷ more) (b ∷ bs) = R a b × InTurn R more bs
