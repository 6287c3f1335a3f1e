-- Lists that are made one by one.
use Rattle.std.proofs.Common.{◌≡◌, ◌∙◌, ℕ, ◌+◌, List, ◌++◌, refl, sym, ap, append_assoc, add-one}
use Rattle.ctt_commands.specs.Tables.{each_below}

-- the lists with one more number
pub each_more : {X : Type 0} (f : ℕ → List X) (n : ℕ) → each_below f (n + 1) ≡ each_below f n ++ f n
each_more f n = rw add-one refl

-- a text with the part of one more number
pub one_more : (f : ℕ → List ℕ) (n : ℕ) (start old new : List ℕ) → old ≡ start ++ each_below f n → new ≡ old ++ f n → new ≡ start ++ each_below f (n + 1)
one_more f n start old new before is =
    is ∙ ap (λ t. t ++ f n) before ∙ append_assoc start (each_below f n) (f n) ∙ ap (λ t. start ++ t) (sym (each_more f n))
