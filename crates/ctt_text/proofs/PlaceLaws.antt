-- The kinds of places: which words obey their rules.
use Rattle.std.proofs.Common.{◌≡◌, inl, inr, ℕ, List, [], ◌∷◌, ◌++◌, Bool, true, false, cond, Option, Some, None, refl, ap, ◌∙◌}
use Rattle.std.specs.Prelude.{nat_lt, nat_le, codes}
use Rattle.std.specs.Str.{bytes_eq}
use Rattle.std.proofs.lemmas.Bool.{ltb-true, lt-ltb, leb-true, le-leb}
use Rattle.ctt_text.specs.Numbers.{is_number, value, number_of}
use Rattle.ctt_problem.specs.Problem.{is_among, place_of, number_in}
use Rattle.ctt_text.specs.Forms.{Form, ◌>>=◌, Fills}
use Rattle.ctt_text.specs.Places.{passing_number, passing_choice, is_all, broken_unless, meant, exactly, known, one, fixed, after}
use Rattle.ctt_text.specs.InstanceText.{IsUpTo, IsBelow}
use Rattle.ctt_text.specs.BlockedText.{IsAllOrBelow}
use Rattle.ctt_text.proofs.FormLaws.{bind_case, Yields}
use Rattle.ctt_problem.proofs.ListLaws.{bytes_sound}

-- a word that obeys a rule passed its test, and one that breaks it did not
pub passed : {F : Type 0} (b : Bool) (e : ℕ → F) → cond b None (Some e) ≡ None → b ≡ true
passed true e h = refl
passed false e h = cc

pub failed : {F : Type 0} (b : Bool) (e : ℕ → F) → cond b (Some e) None ≡ None → b ≡ false
failed true e h = cc
failed false e h = refl

pub passed_both : {F : Type 0} (b c : Bool) (bad out : ℕ → F) → cond b (cond c None (Some out)) (Some bad) ≡ None → (b ≡ true) × (c ≡ true)
passed_both true c bad out h = (refl, passed c out h)
passed_both false c bad out h = cc

-- if a word has a meaning exactly if a test holds, it obeys exactly if the test holds
module _ {F A : Type 0} (fault : ℕ → F) (otherwise a : A) where
  obeyed : (b : Bool) → broken_unless fault (cond b (Some a) None) ≡ None → b ≡ true
  obeyed true h = refl
  obeyed false h = cc

  is_meant : (b : Bool) → b ≡ true → meant otherwise (cond b (Some a) None) ≡ a
  is_meant b h = rw h refl

module _ {F : Type 0} (fault : ℕ → F) (word : List ℕ) where
  -- what obeys the place of a number is a number, which is the value
  pub a_number : broken_unless fault (number_of word) ≡ None → is_number word ≡ true
  a_number h = obeyed fault 0 (value word) (is_number word) h

  pub number_given : broken_unless fault (number_of word) ≡ None → meant 0 (number_of word) ≡ value word
  number_given h = is_meant fault 0 (value word) (is_number word) (a_number h)

  module _ (names : List (List ℕ)) where
    -- what obeys the place of a known name is a known name, whose number is the value
    pub a_name : broken_unless fault (number_in names word) ≡ None → is_among names word ≡ true
    a_name h = obeyed fault 0 (place_of names word) (is_among names word) h

    pub name_given : broken_unless fault (number_in names word) ≡ None → meant 0 (number_in names word) ≡ place_of names word
    name_given h = is_meant fault 0 (place_of names word) (is_among names word) (a_name h)

-- numbers below a limit, and up to a limit
module _ {F : Type 0} (bad out : ℕ → F) (word : List ℕ) (limit : ℕ) where
  pub below_passes : IsBelow limit word → passing_number bad (λ n. nat_lt n limit) out word ≡ None
  below_passes is = rw (is.0, lt-ltb (value word) limit is.1) refl

  pub passed_below : passing_number bad (λ n. nat_lt n limit) out word ≡ None → IsBelow limit word
  passed_below h =
      let p = passed_both (is_number word) (nat_lt (value word) limit) bad out h in
      (p.0, ltb-true (value word) limit p.1)

  pub up_to_passes : IsUpTo limit word → passing_number bad (λ n. nat_le n limit) out word ≡ None
  up_to_passes is = rw (is.0, le-leb (value word) limit is.1) refl

  pub passed_up_to : passing_number bad (λ n. nat_le n limit) out word ≡ None → IsUpTo limit word
  passed_up_to h =
      let p = passed_both (is_number word) (nat_le (value word) limit) bad out h in
      (p.0, leb-true (value word) limit p.1)

-- `*`, or a number below a limit
module _ {F : Type 0} (bad out : ℕ → F) (limit : ℕ) (word : List ℕ) where
  pub choice_passes : IsAllOrBelow limit word → passing_choice bad (λ n. nat_lt n limit) out word ≡ None
  choice_passes (inl all) = rw all refl
  choice_passes (inr below) = rw (below.0, lt-ltb (value word) limit below.1) refl

  pub passed_choice : passing_choice bad (λ n. nat_lt n limit) out word ≡ None → IsAllOrBelow limit word
  passed_choice h = by (is_number word) (nat_lt (value word) limit) (is_all word) refl refl refl h
    where
      by : (a b c : Bool) → is_number word ≡ a → nat_lt (value word) limit ≡ b → is_all word ≡ c → cond {A = Option (ℕ → F)} a (cond b None (Some out)) (cond c None (Some bad)) ≡ None → IsAllOrBelow limit word
      by true true c is below all h = inr (is, ltb-true (value word) limit below)
      by true false c is below all h = cc
      by false b true is below all h = inl (bytes_sound word (codes "*") all)
      by false b false is below all h = cc

-- what obeys the place of a fixed word is that word
pub is_fixed : {F : Type 0} (fault : ℕ → F) (word text : List ℕ) → broken_unless fault (exactly text word) ≡ None → word ≡ text
is_fixed fault word text h = bytes_sound word text (obeyed fault tt tt (bytes_eq word text) h)

-- a fixed word followed by a form, and what fills both
pub after_case : {F A B : Type 0} (C : Type 0) (fault : ℕ → F) (text : List ℕ) (f : Form F A) (g : A → Form F B) (words : List (List ℕ)) (b : B) → Fills (after fault text f >>= g) words b
    → ((us vs : List (List ℕ)) (a : A) → Fills f us a → Fills (g a) vs b → words ≡ text ∷ us ++ vs → C) → C
unfolding fixed known one ◌>>=◌
after_case C fault text f g [] b h then = absurd h
after_case C fault text f g (w ∷ ws) b h then = bind_case C f g ws b h.1 (λ us vs a p q e. then us vs a p q (ap (λ x. x ∷ ws) (is_fixed fault w text h.0) ∙ ap (λ x. text ∷ x) e))

-- a word with this meaning gives it, and the words after it fill the following form
pub then_fills : {F A B : Type 0} (fault : ℕ → F) (meaning : List ℕ → Option A) (otherwise : A) (g : A → Form F B) (w : List ℕ) (ws : List (List ℕ)) (a : A) (b : B) → meaning w ≡ Some a → Fills (g a) ws b → Fills (known fault meaning otherwise >>= g) (w ∷ ws) b
unfolding known one ◌>>=◌
then_fills fault meaning otherwise g w ws a b h k = rw h (refl, k)

pub yields_word : {F A : Type 0} (fault : ℕ → F) (meaning : List ℕ → Option A) (otherwise : A) (P : A → Type 0) → ((w : List ℕ) (a : A) → meaning w ≡ Some a → P a) → Yields P (known fault meaning otherwise)
unfolding known one
yields_word fault meaning otherwise P h [] a fills = absurd fills
yields_word {F} {A} fault meaning otherwise P h (w ∷ []) a fills = by (meaning w) refl fills.0 fills.1
  where
    by : (o : Option A) → meaning w ≡ o → broken_unless fault o ≡ None → meant otherwise o ≡ a → P a
    by None e broken same = cc
    by (Some x) e broken same = h w a (e ∙ ap (λ y. Some y) same)
yields_word fault meaning otherwise P h (w ∷ v ∷ ws) a fills = absurd fills.1
