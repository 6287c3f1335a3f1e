-- Text as HTML, character by character.
use Rattle.std.proofs.Common.{◌≡◌, ℕ, Bool, true, false, ◌==◌, ◌||◌, List, [], ◌∷◌, ◌++◌, length, get_or, chars, codes, encode_utf8, flat_map, IsUtf8, refl, sym, ap, ap₂, ◌∙◌, arith, inl, inr}
use Rattle.std.specs.List.{list_any}
use Rattle.std.proofs.StrCases.{chars_of_empty}
use Rattle.std.proofs.lemmas.Bool.{cases_Bool, eqb-true, eq-eqb}
use Rattle.std.proofs.lemmas.List.{append-nil, get_or_default}
use Rattle.std.proofs.lemmas.List.Folds.{list_any-append, list_any_none}
use Rattle.std.proofs.lemmas.Str.{chars_past_char, inside_one}
use Rattle.ctt_views.specs.Escape.{escaped, escaped_char}
use Rattle.ctt_views.specs.Laws.{NamesHoldNoTag}

-- a text that is written character by character
pub text_step : (f : ℕ → List ℕ) (text rest : List ℕ) (c : ℕ) → IsUtf8 text → text ≡ encode_utf8 c ++ rest → flat_map f (chars text) ≡ f c ++ flat_map f (chars rest)
text_step f text rest c utf8 parts = ap (λ cs. flat_map f cs) (chars_past_char text rest c utf8 parts)

pub text_empty : (f : ℕ → List ℕ) (text : List ℕ) → length text ≡ 0 → flat_map f (chars text) ≡ []
text_empty f text none = ap (λ cs. flat_map f cs) (chars_of_empty text none)

-- a byte is a `<`
abbrev is_tag : ℕ → Bool
is_tag b = b == 60

-- a character other than `<` has no such byte
other_char : (c : ℕ) → (c == 60) ≡ false → list_any is_tag (encode_utf8 c) ≡ false
other_char c other = list_any_none is_tag (encode_utf8 c) (λ k d lt. elim (cases_Bool (is_tag (get_or (encode_utf8 c) k d))) [
  | inl y ↦ (
      let is : get_or (encode_utf8 c) k d ≡ 60 = eqb-true _ 60 y in
      let at : get_or (encode_utf8 c) k 0 ≡ 60 = get_or_default (encode_utf8 c) k 0 d lt ∙ is in
      let same : c ≡ get_or (encode_utf8 c) k 0 = inside_one c [] (encode_utf8 c) k (sym (append-nil (encode_utf8 c))) lt (omega (arith, at)) in
      let one : (c == 60) ≡ true = eq-eqb c 60 (same ∙ at) in
      let never : true ≡ false = sym one ∙ other in
      cc)
  | inr n ↦ n
])

char_has_none : (c : ℕ) → list_any is_tag (escaped_char c) ≡ false
unfolding escaped_char
char_has_none c = elim (cases_Bool (c == 38)) [
  | inl y ↦ rw y refl
  | inr n ↦ rw n (elim (cases_Bool (c == 60)) [
    | inl y ↦ rw y refl
    | inr other ↦ rw other (elim (cases_Bool (c == 62)) [
      | inl y ↦ rw y refl
      | inr n2 ↦ rw n2 (elim (cases_Bool (c == 34)) [
        | inl y ↦ rw y refl
        | inr n3 ↦ rw n3 (elim (cases_Bool (c == 39)) [
          | inl y ↦ rw y refl
          | inr n4 ↦ rw n4 (other_char c other)
        ])
      ])
    ])
  ])
]

all_have_none : (cs : List ℕ) → list_any is_tag (flat_map escaped_char cs) ≡ false
all_have_none [] = refl
all_have_none (c ∷ cs) = list_any-append is_tag (escaped_char c) (flat_map escaped_char cs) ∙ ap₂ (λ a b. a || b) (char_has_none c) (all_have_none cs)

pub names_have_none : NamesHoldNoTag
unfolding escaped
names_have_none name = all_have_none (chars name)

-- what replaces each character
pub and_is : escaped_char 38 ≡ codes "&amp;"
unfolding escaped_char
and_is = refl

pub less_is : escaped_char 60 ≡ codes "&lt;"
unfolding escaped_char
less_is = refl

pub more_is : escaped_char 62 ≡ codes "&gt;"
unfolding escaped_char
more_is = refl

pub quote_is : escaped_char 34 ≡ codes "&quot;"
unfolding escaped_char
quote_is = refl

pub apostrophe_is : escaped_char 39 ≡ codes "&#39;"
unfolding escaped_char
apostrophe_is = refl

pub other_is : (c : ℕ) → (c == 38) ≡ false → (c == 60) ≡ false → (c == 62) ≡ false → (c == 34) ≡ false → (c == 39) ≡ false → escaped_char c ≡ encode_utf8 c
unfolding escaped_char
other_is c a b d e f = rw (a, b, d, e, f) refl
