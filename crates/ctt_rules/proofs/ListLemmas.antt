-- Filters, and properties of each element.
use Rattle.std.proofs.Common.{◌≡◌, ℕ, zero, suc, Bool, true, false, List, [], ◌∷◌, take, refl, ap, inl, inr}
use Rattle.std.specs.List.{filter, AllByRecursion as Each}
use Rattle.std.proofs.lemmas.Bool.{cases_Bool}
use Rattle.ctt_problem.specs.Lists.{Pairwise}
use Rattle.ctt_problem.proofs.TimetableLemmas.{Each-map}

pub Each-filter : {X : Type 0} (P : X → Type 0) (p : X → Bool) (xs : List X) → Each P xs → Each P (filter p xs)
Each-filter P p [] h = tt
Each-filter P p (x ∷ xs) h = elim (cases_Bool (p x)) [ inl e ↦ rw e (h.0, Each-filter P p xs h.1) | inr e ↦ rw e (Each-filter P p xs h.1) ]

pub Pairwise-filter : {X : Type 0} (R : X → X → Type 0) (p : X → Bool) (xs : List X) → Pairwise R xs → Pairwise R (filter p xs)
Pairwise-filter R p [] h = tt
Pairwise-filter R p (x ∷ xs) h = elim (cases_Bool (p x)) [ inl e ↦ rw e (Each-filter (R x) p xs h.0, Pairwise-filter R p xs h.1) | inr e ↦ rw e (Pairwise-filter R p xs h.1) ]

-- a filter that no element passes
pub filter_none : {X : Type 0} (p : X → Bool) (xs : List X) → Each (λ x. p x ≡ false) xs → filter p xs ≡ []
filter_none p [] h = refl
filter_none p (x ∷ xs) h = rw h.0 (filter_none p xs h.1)

pub filter_every : {X : Type 0} (p : X → Bool) (xs : List X) → Each (λ x. p x ≡ true) xs → filter p xs ≡ xs
filter_every p [] h = refl
filter_every p (x ∷ xs) h = rw h.0 (ap (λ ys. x ∷ ys) (filter_every p xs h.1))

-- a filter after a weaker one is the filter alone
pub filter_within : {X : Type 0} (p q : X → Bool) (xs : List X) → ((x : X) → p x ≡ true → q x ≡ true) → filter p (filter q xs) ≡ filter p xs
filter_within p q [] h = refl
filter_within p q (x ∷ xs) h = elim (cases_Bool (p x)) [
  | inl e ↦ (let k : q x ≡ true = h x e in rw (k, e) (ap (λ ys. x ∷ ys) (filter_within p q xs h)))
  | inr e ↦ (elim (cases_Bool (q x)) [ inl k ↦ rw (k, e) (filter_within p q xs h) | inr k ↦ rw (k, e) (filter_within p q xs h) ])
]

pub Each-filter_passes : {X : Type 0} (p : X → Bool) (xs : List X) → Each (λ x. p x ≡ true) (filter p xs)
Each-filter_passes p [] = tt
Each-filter_passes p (x ∷ xs) = elim (cases_Bool (p x)) [ inl e ↦ rw e (e, Each-filter_passes p xs) | inr e ↦ rw e (Each-filter_passes p xs) ]

pub Each-both : {X : Type 0} (P Q R : X → Type 0) → ((x : X) → P x → Q x → R x) → (xs : List X) → Each P xs → Each Q xs → Each R xs
Each-both P Q R f [] h k = tt
Each-both P Q R f (x ∷ xs) h k = (f x h.0 k.0, Each-both P Q R f xs h.1 k.1)

pub Each-take : {X : Type 0} (P : X → Type 0) (n : ℕ) (xs : List X) → Each P xs → Each P (take n xs)
Each-take P zero xs h = tt
Each-take P (suc n) [] h = tt
Each-take P (suc n) (x ∷ xs) h = (h.0, Each-take P n xs h.1)

pub Each-every : {X : Type 0} (P : X → Type 0) → ((x : X) → P x) → (xs : List X) → Each P xs
Each-every P f [] = tt
Each-every P f (x ∷ xs) = (f x, Each-every P f xs)

pub Pairwise-map : {X : Type 0} (R S : X → X → Type 0) → ((x y : X) → R x y → S x y) → (xs : List X) → Pairwise R xs → Pairwise S xs
Pairwise-map R S f [] h = tt
Pairwise-map R S f (x ∷ xs) h = (Each-map (R x) (S x) (f x) xs h.0, Pairwise-map R S f xs h.1)
