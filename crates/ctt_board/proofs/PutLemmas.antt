-- Filters one after another, and elements put in their places in a list in order.
use Rattle.std.proofs.Common.{◌≡◌, suc, Bool, true, false, cond, List, [], ◌∷◌, refl, sym, ap, length, arith, inl, inr, one-add}
use Rattle.std.specs.List.{filter, insert, position_or_len, AllByRecursion as Each}
use Rattle.std.proofs.lemmas.Bool.Decides.{nat_tests}
use Rattle.std.proofs.lemmas.Bool.{cases_Bool}
use Rattle.ctt_problem.specs.Lists.{Pairwise, put}
use Rattle.ctt_problem.proofs.TimetableLemmas.{Each-map}
use Rattle.ctt_problem.proofs.LectureLaws.{Each-put}
use Rattle.ctt_rules.proofs.ListLemmas.{Each-filter}

pub filter_filter : {X : Type 0} (p q : X → Bool) (xs : List X) → filter p (filter q xs) ≡ filter q (filter p xs)
filter_filter p q [] = refl
filter_filter p q (x ∷ xs) = grind (arith, nat_tests, cases_Bool (p x), cases_Bool (q x), filter_filter p q xs)

pub length-put : {X : Type 0} (lt : X → X → Bool) (l : X) (xs : List X) → length (put lt l xs) ≡ suc (length xs)
length-put lt l [] = refl
length-put lt l (x ∷ xs) = elim (cases_Bool (lt l x)) [ inl e ↦ rw e refl | inr e ↦ rw e (ap suc (length-put lt l xs)) ]

pub put_before : {X : Type 0} (lt : X → X → Bool) (l : X) (xs : List X) → Each (λ y. lt l y ≡ true) xs → put lt l xs ≡ l ∷ xs
put_before lt l [] h = refl
put_before lt l (x ∷ xs) h = rw h.0 refl

pub filter-put_no : {X : Type 0} (p : X → Bool) (lt : X → X → Bool) (l : X) (xs : List X) → p l ≡ false → filter p (put lt l xs) ≡ filter p xs
filter-put_no p lt l [] e = rw e refl
filter-put_no p lt l (x ∷ xs) e = elim (cases_Bool (lt l x)) [ inl k ↦ rw (k, e) refl | inr k ↦ rw k (ap (λ ys. cond (p x) (x ∷ ys) ys) (filter-put_no p lt l xs e)) ]

pub filter-put_yes : {X : Type 0} (p : X → Bool) (lt : X → X → Bool) (goes : (a b c : X) → lt a b ≡ true → lt c b ≡ false → lt a c ≡ true) (l : X) (xs : List X) → p l ≡ true → Pairwise (λ a b. lt b a ≡ false) xs → filter p (put lt l xs) ≡ put lt l (filter p xs)
filter-put_yes p lt goes l [] e h = rw e refl
filter-put_yes p lt goes l (x ∷ xs) e h = elim (cases_Bool (lt l x)) [
  | inl k ↦ (let all : Each (λ y. lt l y ≡ true) (x ∷ xs) = (k, Each-map (λ y. lt y x ≡ false) (λ y. lt l y ≡ true) (λ y n. goes l x y k n) xs h.0) in
      rw (k, e) (sym (put_before lt l (filter p (x ∷ xs)) (Each-filter (λ y. lt l y ≡ true) p (x ∷ xs) all))))
  | inr k ↦ (elim (cases_Bool (p x)) [
    | inl n ↦ rw (k, n, k) (ap (λ ys. x ∷ ys) (filter-put_yes p lt goes l xs e h.1))
    | inr n ↦ rw (k, n) (filter-put_yes p lt goes l xs e h.1)
  ])
]

-- the order is preserved
pub Pairwise-put : {X : Type 0} (R : X → X → Type 0) (lt : X → X → Bool) (l : X) (xs : List X) → ((y z : X) → lt l y ≡ true → R y z → R l z) → Each (λ y. lt l y ≡ true → R l y) xs → Each (λ y. lt l y ≡ false → R y l) xs → Pairwise R xs → Pairwise R (put lt l xs)
Pairwise-put R lt l [] far up down h = (tt, tt)
Pairwise-put R lt l (x ∷ xs) far up down h = elim (cases_Bool (lt l x)) [
  | inl k ↦ rw k ((up.0 k, Each-map (R x) (R l) (λ z r. far x z k r) xs h.0), h)
  | inr k ↦ rw k (Each-put (R x) lt l xs (down.0 k) h.0, Pairwise-put R lt l xs far up.1 down.1 h.1)
]

-- a relation in both directions is preserved
pub Pairwise-put_both : {X : Type 0} (R : X → X → Type 0) (lt : X → X → Bool) (l : X) (xs : List X) → Each (λ y. R l y × R y l) xs → Pairwise R xs → Pairwise R (put lt l xs)
Pairwise-put_both R lt l [] both h = (tt, tt)
Pairwise-put_both R lt l (x ∷ xs) both h = elim (cases_Bool (lt l x)) [
  | inl k ↦ rw k ((both.0.0, Each-map (λ y. R l y × R y l) (R l) (λ y b. b.0) xs both.1), h)
  | inr k ↦ rw k (Each-put (R x) lt l xs both.0.1 h.0, Pairwise-put_both R lt l xs both.1 h.1)
]

-- the place of an element, by the elements before it
pub put_is : {X : Type 0} (lt : X → X → Bool) (l : X) (xs : List X) → put lt l xs ≡ insert xs (position_or_len (lt l) xs) l
put_is lt l [] = refl
put_is lt l (x ∷ xs) = elim (cases_Bool (lt l x)) [
  | inl b ↦ rw b refl
  | inr b ↦ rw (b, one-add) (ap (λ ys. x ∷ ys) (put_is lt l xs))
]
