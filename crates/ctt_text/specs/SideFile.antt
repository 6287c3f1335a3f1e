-- A text that states how many entries it has, and then gives them.
use Rattle.std.specs.Prelude.{ℕ, List, [], ◌∷◌, ◌++◌, flat_map, codes}
use Rattle.ctt_text.specs.Forms.{Form, done, ◌>>=◌, times}
use Rattle.ctt_text.specs.Places.{fixed, number_at_most, after}

-- the number of entries after its label, the entries, each in addition to those so far, and the
-- final word
unfoldable pub side_file : {F S : Type 0} → (ℕ → F) → (ℕ → F) → (ℕ → F) → List ℕ → (S → Form F S) → S → Form F S
side_file other_word bad_number too_large label entry start = do
  count ← after other_word label (number_at_most bad_number 2000000 too_large)
  all ← times entry count start
  end ← fixed other_word (codes "END.")
  done all

-- the words of the whole text: the number of entries, the entries, and the final word
abbrev pub spelled_entries : {W : Type 0} → List ℕ → (W → List (List ℕ)) → List ℕ → List W → List (List ℕ)
spelled_entries label spelled count given = label ∷ count ∷ flat_map spelled given ++ codes "END." ∷ []
