-- Words of a line by their numbers.
use Rattle.std.proofs.Common.{◌≡◌, ℕ, zero, suc, ◌+◌, ◌-◌, ◌≤◌, Bool, true, false, List, [], ◌∷◌, drop, arith, refl, sym, ap, if◌then◌else◌}
use Rattle.std.specs.Prelude.{slice_index_or}
use Rattle.std.specs.Str.{IsUtf8, is_utf8}
use Rattle.std.proofs.lemmas.Str.{IsUtf8-from_is_utf8, is_utf8-from_IsUtf8}
use Rattle.ctt_office.specs.BadWords.{BadValue, bad_word, first_untext}

-- the word at a place, by what is left from there
pub word_there : (ws : List (List ℕ)) (k : ℕ) (w : List ℕ) (rest : List (List ℕ)) → drop k ws ≡ w ∷ rest → slice_index_or ws k [] ≡ w
word_there [] zero w rest h = cc
word_there [] (suc k) w rest h = cc
word_there (v ∷ ws) zero w rest h = cc
word_there (v ∷ ws) (suc k) w rest h = word_there ws k w rest h

-- what is left from the next place
pub rest_there : (ws : List (List ℕ)) (k : ℕ) (w : List ℕ) (rest : List (List ℕ)) → drop k ws ≡ w ∷ rest → drop (suc k) ws ≡ rest
rest_there [] zero w rest h = cc
rest_there [] (suc k) w rest h = cc
rest_there (v ∷ ws) zero w rest h = cc
rest_there (v ∷ ws) (suc k) w rest h = rest_there ws k w rest h

pub none_there : (ws : List (List ℕ)) (k n : ℕ) → drop k ws ≡ [] → k ≤ n → slice_index_or ws n [] ≡ []
none_there [] k n h le = refl
none_there (v ∷ ws) zero n h le = cc
none_there (v ∷ ws) (suc k) zero h le = absurd (omega (arith, le))
none_there (v ∷ ws) (suc k) (suc n) h le = none_there ws k n h (omega (arith, le))

-- the first word that is not UTF-8
pub untext_here : (n : ℕ) (w : List ℕ) (ws : List (List ℕ)) → ¬ IsUtf8 w → first_untext n (w ∷ ws) ≡ n
untext_here n w ws not = by (is_utf8 w) refl
  where
    by : (b : Bool) → is_utf8 w ≡ b → (if b then first_untext (n + 1) ws else n) ≡ n
    by true e = absurd (not (IsUtf8-from_is_utf8 w e))
    by false e = refl

pub untext_later : (n : ℕ) (w : List ℕ) (ws : List (List ℕ)) → IsUtf8 w → first_untext n (w ∷ ws) ≡ first_untext (n + 1) ws
untext_later n w ws is = rw (is_utf8-from_IsUtf8 w is) refl

-- a word by its number
pub bad_word_is : (at : ℕ) (ws : List (List ℕ)) (w : List ℕ) → slice_index_or ws (at - 1) [] ≡ w → record { at = at; word = w } ≡ bad_word at ws
bad_word_is at ws w is = ap (λ v. bad_value at v) (sym is)
  where
    bad_value : ℕ → List ℕ → BadValue
    bad_value n v = record { at = n; word = v }
