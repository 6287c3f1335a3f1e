-- Texts that grow piece by piece.
use Rattle.std.proofs.Common.{◌≡◌, ℕ, ◌+◌, ◌<◌, Bool, true, false, cond, ◌||◌, List, [], ◌∷◌, ◌++◌, take, length, get_or, flat_map, Result, Ok, Err, OnOk, is_ok, if◌then◌else◌, refl, ◌∙◌, sym, ap, ap₂, subst, add-one, append_assoc, append-nil}
use Rattle.std.specs.List.{filter, list_any}
use Rattle.std.proofs.lemmas.List.{take_more}
use Rattle.std.proofs.lemmas.List.Concat.{flat_map-append}
use Rattle.std.proofs.lemmas.List.Elements.{filter_more}
use Rattle.std.proofs.lemmas.List.Folds.{list_any_at, list_any_more}
use Rattle.ctt_views.specs.GridTexts.{each_below}

pub each_more : (f : ℕ → List ℕ) (n : ℕ) → each_below f (n + 1) ≡ each_below f n ++ f n
each_more f n = rw add-one refl

-- the text with one more number
pub goes_on : (f : ℕ → List ℕ) (n : ℕ) (old now new piece : List ℕ) → now ≡ old ++ each_below f n → new ≡ now ++ piece → piece ≡ f n → new ≡ old ++ each_below f (n + 1)
goes_on f n old now new piece so_far more is =
    more ∙ ap (λ xs. xs ++ piece) so_far ∙ append_assoc old (each_below f n) piece ∙ ap (λ xs. old ++ (each_below f n ++ xs)) is ∙ ap (λ xs. old ++ xs) (sym (each_more f n))

module _ {X : Type 0} (p : X → Bool) (f : X → List ℕ) (xs : List X) (k : ℕ) (x : X) (lt : k < length xs) (at : x ≡ get_or xs k x) where
  one : (b : Bool) → flat_map f (cond b (x ∷ []) []) ≡ cond b (f x) []
  one true = append-nil (f x)
  one false = refl

  next : flat_map f (filter p (take (k + 1) xs)) ≡ flat_map f (filter p (take k xs)) ++ cond (p x) (f x) []
  next =
      ap (flat_map f) (filter_more p xs k x lt ∙ ap (λ y. filter p (take k xs) ++ cond (p y) (y ∷ []) []) (sym at))
      ∙ flat_map-append f (filter p (take k xs)) (cond (p x) (x ∷ []) []) ∙ ap (λ ys. flat_map f (filter p (take k xs)) ++ ys) (one (p x))

  -- the text with one more element, if it passes
  pub passes_on : (old now new : List ℕ) → now ≡ old ++ flat_map f (filter p (take k xs)) → new ≡ now ++ cond (p x) (f x) [] → new ≡ old ++ flat_map f (filter p (take (k + 1) xs))
  passes_on old now new so_far more =
      more ∙ ap (λ ys. ys ++ cond (p x) (f x) []) so_far ∙ append_assoc old (flat_map f (filter p (take k xs))) (cond (p x) (f x) []) ∙ ap (λ ys. old ++ ys) (sym next)

-- the text with one more element
pub item_on : {X : Type 0} (f : X → List ℕ) (xs : List X) (k : ℕ) (x : X) → k < length xs → x ≡ get_or xs k x → (old now new : List ℕ)
    → now ≡ old ++ flat_map f (take k xs) → new ≡ now ++ f x → new ≡ old ++ flat_map f (take (k + 1) xs)
item_on f xs k x lt at old now new so_far more =
    let next : flat_map f (take (k + 1) xs) ≡ flat_map f (take k xs) ++ f x =
    ap (flat_map f) (take_more xs k x lt ∙ ap (λ y. take k xs ++ y ∷ []) (sym at)) ∙ flat_map-append f (take k xs) (x ∷ []) ∙ ap (λ ys. flat_map f (take k xs) ++ ys) (append-nil (f x)) in
    more ∙ ap (λ ys. ys ++ f x) so_far ∙ append_assoc old (flat_map f (take k xs)) (f x) ∙ ap (λ ys. old ++ ys) (sym next)

-- a text in which a piece is replaced by an equal one
pub piece_is : {T E : Type 0} (r : Result T E) (old new more other : List ℕ) → more ≡ other → OnOk r (new ≡ old ++ more) → OnOk r (new ≡ old ++ other)
piece_is r old new more other e h = subst (λ piece. OnOk r (new ≡ old ++ piece)) e h

-- a text of seven pieces, followed by one more
pub one_behind : (a b c d e f g z : List ℕ) → (a ++ (b ++ (c ++ (d ++ (e ++ (f ++ g)))))) ++ z ≡ a ++ (b ++ (c ++ (d ++ (e ++ (f ++ (g ++ z))))))
one_behind a b c d e f g z =
    append_assoc a _ z ∙ ap (λ xs. a ++ xs) (append_assoc b _ z ∙ ap (λ xs. b ++ xs) (append_assoc c _ z ∙ ap (λ xs. c ++ xs) (append_assoc d _ z ∙ ap (λ xs. d ++ xs) (append_assoc e _ z ∙ ap (λ xs. e ++ xs) (append_assoc f g z)))))

-- some element passes, and none passes with one more that does not
pub any_here : {X : Type 0} (p : X → Bool) (xs : List X) (k : ℕ) (x : X) → k < length xs → x ≡ get_or xs k x → p x ≡ true → list_any p xs ≡ true
any_here p xs k x lt at e = list_any_at p xs k x lt (ap p (sym at) ∙ e)

pub none_more : {X : Type 0} (p : X → Bool) (xs : List X) (k : ℕ) (x : X) → k < length xs → x ≡ get_or xs k x → list_any p (take k xs) ≡ false → p x ≡ false → list_any p (take (k + 1) xs) ≡ false
none_more p xs k x lt at none e = list_any_more p xs k x lt ∙ ap₂ (λ a b. a || b) none (ap p (sym at) ∙ e)

-- a text with four more pieces, and one of four pieces
pub four_more : (p q r s t : List ℕ) (a b c d : List ℕ) → q ≡ p ++ a → r ≡ q ++ b → s ≡ r ++ c → t ≡ s ++ d → t ≡ p ++ (a ++ (b ++ (c ++ d)))
four_more p q r s t a b c d h1 h2 h3 h4 =
    let second : r ≡ p ++ (a ++ b) = h2 ∙ ap (λ xs. xs ++ b) h1 ∙ append_assoc p a b in
    let third : s ≡ p ++ (a ++ (b ++ c)) = h3 ∙ ap (λ xs. xs ++ c) second ∙ append_assoc p (a ++ b) c ∙ ap (λ xs. p ++ xs) (append_assoc a b c) in
    h4 ∙ ap (λ xs. xs ++ d) third ∙ append_assoc p (a ++ (b ++ c)) d ∙ ap (λ xs. p ++ xs) (append_assoc a (b ++ c) d ∙ ap (λ xs. a ++ xs) (append_assoc b c d))

pub four_pieces : (p q r s t : List ℕ) (a b c d : List ℕ) → p ≡ [] → q ≡ p ++ a → r ≡ q ++ b → s ≡ r ++ c → t ≡ s ++ d → t ≡ a ++ (b ++ (c ++ d))
four_pieces p q r s t a b c d h0 h1 h2 h3 h4 = four_more p q r s t a b c d h1 h2 h3 h4 ∙ ap (λ xs. xs ++ (a ++ (b ++ (c ++ d)))) h0

-- the last of several pieces, if it is added without a fault
pub on_ok : {T E : Type 0} (r : Result T E) (old new t : List ℕ) → new ≡ (if is_ok r then old ++ t else old) → OnOk r (new ≡ old ++ t)
on_ok (Ok x) old new t h = h
on_ok (Err x) old new t h = tt

pub two_in : {T E : Type 0} (r : Result T E) (p q new a b : List ℕ) → q ≡ p ++ a → OnOk r (new ≡ q ++ b) → OnOk r (new ≡ p ++ (a ++ b))
two_in (Ok x) p q new a b h k = k ∙ ap (λ xs. xs ++ b) h ∙ append_assoc p a b
two_in (Err x) p q new a b h k = k

module _ {T E : Type 0} (r : Result T E) where
  pub three_in : (p q1 q2 new a b c : List ℕ) → q1 ≡ p ++ a → q2 ≡ q1 ++ b → OnOk r (new ≡ q2 ++ c) → OnOk r (new ≡ p ++ (a ++ (b ++ c)))
  three_in p q1 q2 new a b c h1 h2 k = two_in r p q1 new a (b ++ c) h1 (two_in r q1 q2 new b c h2 k)

  pub four_in : (p q1 q2 q3 new a b c d : List ℕ) → q1 ≡ p ++ a → q2 ≡ q1 ++ b → q3 ≡ q2 ++ c → OnOk r (new ≡ q3 ++ d) → OnOk r (new ≡ p ++ (a ++ (b ++ (c ++ d))))
  four_in p q1 q2 q3 new a b c d h1 h2 h3 k = two_in r p q1 new a (b ++ (c ++ d)) h1 (three_in q1 q2 q3 new b c d h2 h3 k)

  pub five_in : (p q1 q2 q3 q4 new a b c d e : List ℕ) → q1 ≡ p ++ a → q2 ≡ q1 ++ b → q3 ≡ q2 ++ c → q4 ≡ q3 ++ d → OnOk r (new ≡ q4 ++ e) → OnOk r (new ≡ p ++ (a ++ (b ++ (c ++ (d ++ e)))))
  five_in p q1 q2 q3 q4 new a b c d e h1 h2 h3 h4 k = two_in r p q1 new a (b ++ (c ++ (d ++ e))) h1 (four_in q1 q2 q3 q4 new b c d e h2 h3 h4 k)

  pub six_in : (p q1 q2 q3 q4 q5 new a b c d e f : List ℕ) → q1 ≡ p ++ a → q2 ≡ q1 ++ b → q3 ≡ q2 ++ c → q4 ≡ q3 ++ d → q5 ≡ q4 ++ e → OnOk r (new ≡ q5 ++ f) → OnOk r (new ≡ p ++ (a ++ (b ++ (c ++ (d ++ (e ++ f))))))
  six_in p q1 q2 q3 q4 q5 new a b c d e f h1 h2 h3 h4 h5 k = two_in r p q1 new a (b ++ (c ++ (d ++ (e ++ f)))) h1 (five_in q1 q2 q3 q4 q5 new b c d e f h2 h3 h4 h5 k)

  pub seven_in : (p q1 q2 q3 q4 q5 q6 new a b c d e f g : List ℕ) → q1 ≡ p ++ a → q2 ≡ q1 ++ b → q3 ≡ q2 ++ c → q4 ≡ q3 ++ d → q5 ≡ q4 ++ e → q6 ≡ q5 ++ f → OnOk r (new ≡ q6 ++ g) → OnOk r (new ≡ p ++ (a ++ (b ++ (c ++ (d ++ (e ++ (f ++ g)))))))
  seven_in p q1 q2 q3 q4 q5 q6 new a b c d e f g h1 h2 h3 h4 h5 h6 k = two_in r p q1 new a (b ++ (c ++ (d ++ (e ++ (f ++ g))))) h1 (six_in q1 q2 q3 q4 q5 q6 new b c d e f g h2 h3 h4 h5 h6 k)
