-- Lists that grow by findings, step by step.
use Rattle.std.proofs.Common.{◌≡◌, ℕ, zero, suc, ◌+◌, ◌<◌, ◌≤◌, Bool, true, false, ◌&&◌, nat_lt, nat_le, List, [], ◌∷◌, ◌++◌, take, length, get_or, Option, Some, None, refl, ◌∙◌, sym, ap, arith, inl, inr, add-one, append_assoc, append-nil}
use Rattle.std.specs.List.{cons_option, filter_map, AllByRecursion as Each}
use Rattle.std.specs.Option.{option_to_list}
use Rattle.std.proofs.lemmas.Bool.{cases_lt}
use Rattle.std.proofs.lemmas.Bool.Decides.{nat_tests}
use Rattle.std.proofs.lemmas.List.{take_more}
use Rattle.std.proofs.lemmas.List.Elements.{filter_map-append}
use Rattle.ctt_problem.specs.Marks.{IsLeast}
use Rattle.ctt_findings.specs.Findings.{for_each, where_passes}
use Rattle.ctt_findings.specs.declared.finding.Finding.{Finding}

cons_is : (o : Option Finding) → cons_option o [] ≡ option_to_list o
cons_is None = refl
cons_is (Some x) = refl

-- functions that agree on each element find the same
pub filter_map_same : {X : Type 0} (f g : X → Option Finding) (xs : List X) → Each (λ x. f x ≡ g x) xs → filter_map f xs ≡ filter_map g xs
filter_map_same f g [] h = refl
filter_map_same f g (x ∷ xs) h = ap (λ o. cons_option o (filter_map f xs)) h.0 ∙ ap (cons_option (g x)) (filter_map_same f g xs h.1)

-- a list that grew by xs and then by ys
pub grown : (old now new xs ys zs : List Finding) → now ≡ old ++ xs → new ≡ now ++ ys → zs ≡ xs ++ ys → new ≡ old ++ zs
grown old now new xs ys zs so_far more is = more ∙ ap (λ fs. fs ++ ys) so_far ∙ append_assoc old xs ys ∙ ap (λ fs. old ++ fs) (sym is)

module _ (old now new : List Finding) where
  -- the findings with one more element
  pub item_more : {X : Type 0} (f : X → Option Finding) (t : List X) (k : ℕ) (x : X) (this : Option Finding) → k < length t → x ≡ get_or t k x → this ≡ f x
      → now ≡ old ++ filter_map f (take k t) → new ≡ now ++ option_to_list this → new ≡ old ++ filter_map f (take (k + 1) t)
  item_more f t k x this within at is so_far more =
      grown old now new (filter_map f (take k t)) (option_to_list this) (filter_map f (take (k + 1) t)) so_far more
      (ap (filter_map f) (take_more t k x within ∙ ap (λ y. take k t ++ y ∷ []) (sym at)) ∙ filter_map-append f (take k t) (x ∷ [])
      ∙ ap (λ o. filter_map f (take k t) ++ cons_option o []) (sym is) ∙ ap (λ ys. filter_map f (take k t) ++ ys) (cons_is this))

  -- the findings with one more number
  pub number_more : (f : ℕ → List Finding) (n : ℕ) (this : List Finding) → this ≡ f n → now ≡ old ++ for_each f n → new ≡ now ++ this → new ≡ old ++ for_each f (n + 1)
  number_more f n this is so_far more = grown old now new (for_each f n) this (for_each f (n + 1)) so_far more (rw add-one (ap (λ ys. for_each f n ++ ys) (sym is)))

-- the findings below m are those below n, if there is none from n on
pub for_each_skip : (f : ℕ → List Finding) (n m : ℕ) → n ≤ m → ((k : ℕ) → n ≤ k → k < m → f k ≡ []) → for_each f m ≡ for_each f n
for_each_skip f n zero le none = let same : zero ≡ n = omega (arith, le) in ap (for_each f) same
for_each_skip f n (suc m) le none = elim (cases_lt m n) [
  | inl past ↦ (let same : suc m ≡ n = omega (arith, le, past) in ap (for_each f) same)
  | inr more ↦ rw (none m more (omega arith)) (append-nil (for_each f m) ∙ for_each_skip f n m more (λ k a b. none k a (omega (arith, b))))
]

found_between : (p : ℕ → Bool) (from end k : ℕ) → (nat_lt k end && (nat_le from k && p k)) ≡ true → (from ≤ k) × (k < end) × (p k ≡ true)
found_between p from end k e = (grind (arith, nat_tests), grind (arith, nat_tests), grind (arith, nat_tests))

none_between : (p : ℕ → Bool) (from end k : ℕ) → (nat_lt k end && (nat_le from k && p k)) ≡ false → from ≤ k → k < end → p k ≡ false
none_between p from end k e le lt = grind (arith, nat_tests)

-- from one marked number to the next, if the marked numbers are those that pass
module _ (p q : ℕ → Bool) (f : ℕ → List Finding) (from end : ℕ) (same : (n : ℕ) → from ≤ n → n < end → p n ≡ q n) where
  -- a number that was found passes
  pub next_passes : (k : ℕ) → IsLeast (λ n. nat_lt n end && (nat_le from n && p n)) (Some k) → (from ≤ k) × (k < end) × (q k ≡ true)
  next_passes k least =
      let at = found_between p from end k least.0 in
      (at.0, at.1, sym (same k at.0 at.1) ∙ at.2)

  pub skipped_to : (k : ℕ) → IsLeast (λ n. nat_lt n end && (nat_le from n && p n)) (Some k) → for_each (where_passes q f) k ≡ for_each (where_passes q f) from
  skipped_to k least =
      let at = next_passes k least in
      for_each_skip (where_passes q f) from k at.0 (λ n le lt. rw (sym (same n le (omega (arith, lt, at.1))) ∙ none_between p from end n (least.1 n lt) le (omega (arith, lt, at.1))) refl)

  pub next_more : (old now new : List Finding) (k : ℕ) (this : List Finding) → this ≡ f k → IsLeast (λ n. nat_lt n end && (nat_le from n && p n)) (Some k)
      → now ≡ old ++ for_each (where_passes q f) from → new ≡ now ++ this → new ≡ old ++ for_each (where_passes q f) (k + 1)
  next_more old now new k this is least so_far more =
      let at = next_passes k least in
      let here : this ≡ where_passes q f k = rw at.2 is in
      number_more old now new (where_passes q f) k this here (so_far ∙ ap (λ fs. old ++ fs) (sym (skipped_to k least))) more

  pub all_passed : from ≤ end → IsLeast (λ n. nat_lt n end && (nat_le from n && p n)) None → for_each (where_passes q f) end ≡ for_each (where_passes q f) from
  all_passed le least =
      for_each_skip (where_passes q f) from end le (λ n past lt. rw (sym (same n past lt) ∙ none_between p from end n (least n) past lt) refl)
