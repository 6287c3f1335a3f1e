-- The words of whole lines, and of what follows them.
use Rattle.std.proofs.Common.{◌≡◌, ◌∙◌, ℕ, Bool, true, false, not, List, [], ◌∷◌, ◌++◌, refl, sym, ap}
use Rattle.ctt_text.specs.Words.{begins_word, grow, words}
use Rattle.ctt_problem.specs.Named.{is_blank}

grow_some : {P : Type 0} (b : ℕ) (t : Bool) (ws : List (List ℕ)) → grow b t ws ≡ [] → P
grow_some b true [] is = cc
grow_some b true (w ∷ ws) is = cc
grow_some b false ws is = cc

begins_some : {P : Type 0} (xs : List ℕ) → begins_word xs ≡ true → words xs ≡ [] → P
unfolding words
begins_some [] begins none = cc
begins_some {P} (x ∷ xs) begins none = by (is_blank x) refl
  where
    by : (blank : Bool) → is_blank x ≡ blank → P
    by true e = (let other : not (is_blank x) ≡ false = ap not e in cc)
    by false e = grow_some x (begins_word xs) (words xs) (sym (rw e refl) ∙ none)

grow_front : (b : ℕ) (t : Bool) (ws more : List (List ℕ)) → (t ≡ true → ws ≡ [] → ⊥) → grow b t (ws ++ more) ≡ grow b t ws ++ more
grow_front b true [] more some = absurd (some refl refl)
grow_front b true (w ∷ ws) more some = refl
grow_front b false ws more some = refl

begins_before : (init rest : List ℕ) → begins_word ((init ++ 10 ∷ []) ++ rest) ≡ begins_word (init ++ 10 ∷ [])
begins_before [] rest = refl
begins_before (b ∷ init) rest = refl

-- a newline separates words
pub words_apart : (init rest : List ℕ) → words ((init ++ 10 ∷ []) ++ rest) ≡ words (init ++ 10 ∷ []) ++ words rest
unfolding words is_blank
words_apart [] rest = refl
words_apart (b ∷ init) rest = by (is_blank b) refl (words_apart init rest)
  where
    by : (blank : Bool) → is_blank b ≡ blank → words ((init ++ 10 ∷ []) ++ rest) ≡ words (init ++ 10 ∷ []) ++ words rest
        → words ((b ∷ init ++ 10 ∷ []) ++ rest) ≡ words (b ∷ init ++ 10 ∷ []) ++ words rest
    by true e more = rw e more
    by false e more = rw e (
        ap (λ t. grow b t (words ((init ++ 10 ∷ []) ++ rest))) (begins_before init rest)
        ∙ ap (grow b (begins_word (init ++ 10 ∷ []))) more
        ∙ grow_front b (begins_word (init ++ 10 ∷ [])) (words (init ++ 10 ∷ [])) (words rest) (λ begins none. begins_some (init ++ 10 ∷ []) begins none))
