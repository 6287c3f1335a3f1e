-- Vectors of lists, to which a number is appended.
use Rattle.std.proofs.Common.{◌≡◌, ℕ, zero, suc, ◌+◌, ◌<◌, ◌≤◌, Bool, true, false, cond, ◌==◌, List, [], ◌∷◌, ◌++◌, length, map, get_or, append-nil, add-one, refl, ◌∙◌, sym, ap, ap₂, arith, inl, inr}
use Rattle.std.specs.List.{slice_set, AllByRecursion as Each}
use Rattle.std.proofs.lemmas.List.{get_or-set_other, length-set, set-get_or, get_or-map, map-set, length-map, length-append}
use Rattle.std.proofs.lemmas.Grind.{get_or-set_at}
use Rattle.std.proofs.lemmas.Bool.{cases_eq, eq-eqb, ne_eqb}
use Rattle.ctt_problem.specs.Lists.{below}
use Rattle.ctt_problem.specs.NumberLists.{AddsNumber}
use Rattle.ctt_problem.proofs.TimetableLemmas.{Each-map, Each-append}

-- the number is appended to the list at one index
one_added : {N : Type 0} (lists : List (List N)) (k : ℕ) (q : N) → k < length lists → AddsNumber lists (slice_set lists k (get_or lists k [] ++ q ∷ [])) q (λ p. k == p)
one_added lists k q lt = record { size = length-set lists k (get_or lists k [] ++ q ∷ []); lists = each }
  where
    each : (p : ℕ) → p < length lists → get_or (slice_set lists k (get_or lists k [] ++ q ∷ [])) p [] ≡ get_or lists p [] ++ cond (k == p) (q ∷ []) []
    each p less = elim (cases_eq k p) [
      | inl same ↦ (
          let set : get_or (slice_set lists k (get_or lists k [] ++ q ∷ [])) p [] ≡ get_or lists k [] ++ q ∷ [] = get_or-set_at lists k p (get_or lists k [] ++ q ∷ []) [] (sym same) lt in
          set ∙ ap (λ n. get_or lists n [] ++ q ∷ []) same ∙ ap (λ b. get_or lists p [] ++ cond b (q ∷ []) []) (sym (eq-eqb k p same)))
      | inr other ↦ (
          let set : get_or (slice_set lists k (get_or lists k [] ++ q ∷ [])) p [] ≡ get_or lists p [] = get_or-set_other lists k p (get_or lists k [] ++ q ∷ []) [] (λ e. other (sym e)) in
          set ∙ sym (append-nil (get_or lists p [])) ∙ ap (λ b. get_or lists p [] ++ cond b (q ∷ []) []) (sym (ne_eqb k p other)))
    ]

-- the same for values that contain lists
pub set_added : {N V : Type 0} (items : V → List N) (lists : List V) (k : ℕ) (q : N) (x v : V) → k < length lists → items v ≡ items (get_or lists k x) ++ q ∷ [] → AddsNumber (map items lists) (map items (slice_set lists k v)) q (λ p. k == p)
set_added items lists k q x v lt e =
    let here : get_or (map items lists) k [] ≡ items (get_or lists k x) = get_or-map items lists k x [] lt in
    let set : map items (slice_set lists k v) ≡ slice_set (map items lists) k (get_or (map items lists) k [] ++ q ∷ []) = map-set items lists k v ∙ ap (slice_set (map items lists) k) (e ∙ ap (λ xs. xs ++ q ∷ []) (sym here)) in
    rw set (one_added (map items lists) k q (omega (arith, lt, length-map lists items)))

-- replacing a list by itself
pub set_kept : {N V : Type 0} (items : V → List N) (lists : List V) (k : ℕ) (x v : V) → k < length lists → items v ≡ items (get_or lists k x) → map items (slice_set lists k v) ≡ map items lists
set_kept items lists k x v lt e =
    let here : get_or (map items lists) k [] ≡ items v = get_or-map items lists k x [] lt ∙ sym e in
    map-set items lists k v ∙ ap (slice_set (map items lists) k) (sym here) ∙ set-get_or (map items lists) k []

-- one more number, which passes the test or does not
pub below_more : (p : ℕ → Bool) (n : ℕ) → below p (n + 1) ≡ below p n ++ cond (p n) (n ∷ []) []
below_more p n = rw add-one refl

-- the numbers that pass are below the end, and no more than its value
pub below_fit : (p : ℕ → Bool) (n : ℕ) → Each (λ k. k < n) (below p n)
below_fit p zero = tt
below_fit p (suc n) = Each-append (λ k. k < suc n) (below p n) (cond (p n) (n ∷ []) []) (Each-map (λ k. k < n) (λ k. k < suc n) (λ k lt. omega (arith, lt)) (below p n) (below_fit p n)) (last (p n))
  where
    last : (b : Bool) → Each (λ k. k < suc n) (cond b (n ∷ []) [])
    last true = (omega arith, tt)
    last false = tt

pub below_few : (p : ℕ → Bool) (n : ℕ) → length (below p n) ≤ n
below_few p zero = omega arith
below_few p (suc n) = omega (arith, below_few p n, length-append (below p n) (cond (p n) (n ∷ []) []), last (p n))
  where
    last : (b : Bool) → length (cond b (n ∷ []) []) ≤ 1
    last true = omega arith
    last false = omega arith

-- looking up a list among values that contain lists
pub list_read : {V : Type 0} (items : V → List ℕ) (values : List V) (lists : List (List ℕ)) (k c : ℕ) (x : V) (list : List ℕ)
    → map items values ≡ lists → k ≡ c → c < length lists → x ≡ get_or values k x → list ≡ items x → list ≡ get_or lists c []
list_read items values lists k c x list e same lt is value =
    let within : k < length values = omega (arith, lt, same, length-map values items, ap length e) in
    value ∙ ap items is ∙ sym (get_or-map items values k x [] within) ∙ ap₂ (λ xs n. get_or xs n []) e same

-- empty lists, with one more empty list
pub none_more : {N V : Type 0} (items : V → List N) (lists : List V) (v : V) → items v ≡ [] → ((c : ℕ) → get_or (map items lists) c [] ≡ []) → (c : ℕ) → get_or (map items (lists ++ v ∷ [])) c [] ≡ []
none_more items [] v e none zero = e
none_more items [] v e none (suc c) = refl
none_more items (x ∷ xs) v e none zero = none zero
none_more items (x ∷ xs) v e none (suc c) = none_more items xs v e (λ k. none (suc k)) c
