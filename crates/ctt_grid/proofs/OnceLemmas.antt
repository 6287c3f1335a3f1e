-- A lawful timetable has at most one lecture of a curriculum in a slot.
use Rattle.std.proofs.Common.{◌≡◌, ℕ, ◌<◌, ◌≤◌, Bool, true, false, cond, ◌&&◌, ◌||◌, ◌==◌, ltb, List, [], ◌∷◌, refl, ◌∙◌, sym, ap, ap₂, arith, inl, inr}
use Rattle.std.specs.List.{count_by, list_any, AllByRecursion as Each}
use Rattle.std.proofs.lemmas.Bool.{cases_Bool, and_parts}
use Rattle.std.proofs.lemmas.Bool.Decides.{nat_tests}
use Rattle.ctt_problem.specs.Lists.{has, Pairwise}
use Rattle.ctt_problem.specs.Problem.{Problem, curriculum_count, members, mates, clash}
use Rattle.ctt_problem.specs.Timetable.{before}
use Rattle.ctt_problem.specs.declared.placed.Placed.{Placed}
use Rattle.ctt_problem.proofs.TimetableLemmas.{Each-at, Each-map}
use Rattle.ctt_rules.specs.Hard.{Lawful, conflicts}
use Rattle.ctt_rules.proofs.SumLemmas.{count_by-cons}
use Rattle.ctt_grid.specs.CostDelta.{in_slot, count_in_slot}
use Rattle.ctt_grid.proofs.CountedLemmas.{any_counted}

-- of elements of which no two pass there is at most one that passes
none_counted : {X : Type 0} (p : X → Bool) (xs : List X) → Each (λ x. p x ≡ false) xs → count_by p xs ≡ 0
none_counted p [] h = refl
none_counted p (x ∷ xs) h = omega (arith, count_by-cons p x xs, ap (λ b. cond {A = ℕ} b 1 0) h.0, none_counted p xs h.1)

one_most : {X : Type 0} (p : X → Bool) (xs : List X) → Pairwise (λ a b. p a ≡ true → p b ≡ false) xs → count_by p xs ≤ 1
one_most p [] h = omega arith
one_most p (x ∷ xs) h = elim (cases_Bool (p x)) [
  | inl y ↦ omega (arith, count_by-cons p x xs, ap (λ b. cond {A = ℕ} b 1 0) y, none_counted p xs (Each-map (λ b. p x ≡ true → p b ≡ false) (λ b. p b ≡ false) (λ b k. k y) xs h.0))
  | inr n ↦ omega (arith, count_by-cons p x xs, ap (λ b. cond {A = ℕ} b 1 0) n, one_most p xs h.1)
]

Each-both : {X : Type 0} (P Q R : X → Type 0) → ((x : X) → P x → Q x → R x) → (xs : List X) → Each P xs → Each Q xs → Each R xs
Each-both P Q R f [] h k = tt
Each-both P Q R f (x ∷ xs) h k = (f x h.0 k.0, Each-both P Q R f xs h.1 k.1)

Pairwise-both : {X : Type 0} (P Q R : X → X → Type 0) → ((a b : X) → P a b → Q a b → R a b) → (xs : List X) → Pairwise P xs → Pairwise Q xs → Pairwise R xs
Pairwise-both P Q R f [] h k = tt
Pairwise-both P Q R f (x ∷ xs) h k = (Each-both (P x) (Q x) (R x) (f x) xs h.0 k.0, Pairwise-both P Q R f xs h.1 k.1)

any_none : {X : Type 0} (p : X → Bool) (xs : List X) → list_any p xs ≡ false → Each (λ x. p x ≡ false) xs
any_none p [] h = tt
any_none p (x ∷ xs) h = elim (cases_Bool (p x)) [
  | inl b ↦ (let h' : true ≡ false = rw b at h in cc)
  | inr b ↦ (let h' : list_any p xs ≡ false = rw b at h in (b, any_none p xs h'))
]

-- courses that do not clash share no curriculum
share_none : (i : Problem) (c d q : ℕ) → (c == d) ≡ false → clash i c d ≡ false → q < curriculum_count i → (has c (members i q) && has d (members i q)) ≡ false
share_none i c d q other clear known = Each-at (λ m. (has c m && has d m) ≡ false) i.curricula (any_none (λ m. has c m && has d m) i.curricula no_mates) q [] known
  where
    by : (x y : Bool) → (x || y) ≡ false → y ≡ false
    by true y h = cc
    by false y h = h

    no_mates : mates i c d ≡ false
    no_mates = by _ (mates i c d) (rw other at clear)

-- two lectures of one curriculum in one slot would conflict
apart : (i : Problem) (q s : ℕ) (a b : Placed) → q < curriculum_count i → conflicts i a b ≡ false → before a b ≡ true → in_slot (members i q) s a ≡ true → in_slot (members i q) s b ≡ false
apart i q s a b known none order here = elim (cases_Bool (in_slot (members i q) s b)) [
  | inr n ↦ n
  | inl y ↦ (
      let first = and_parts (has a.course (members i q)) (a.slot == s) here in
      let second = and_parts (has b.course (members i q)) (b.slot == s) y in
      let same : (a.slot == b.slot) ≡ true = grind (arith, nat_tests, first.1, second.1) in
      let other : (a.course == b.course) ≡ false = grind (arith, nat_tests, same, order) in
      let no_clash : clash i a.course b.course ≡ false = (rw same at none) in
      let not_both = share_none i a.course b.course q other no_clash known in
      absurd (let z : true ≡ false = sym (ap₂ (λ x y. x && y) first.0 second.0) ∙ not_both in cc))
]

pub one_there : (i : Problem) (t : List Placed) (q s : ℕ) → Lawful i t → q < curriculum_count i → count_in_slot (members i q) t s ≤ 1
one_there i t q s h known = one_most (in_slot (members i q) s) t (Pairwise-both (λ a b. conflicts i a b ≡ false) (λ a b. before a b ≡ true) (λ a b. in_slot (members i q) s a ≡ true → in_slot (members i q) s b ≡ false) (λ a b c o. apart i q s a b known c o) t h.conflict_free h.timetable.ascending)

-- so whether there is one is their number
pub number_there : (i : Problem) (t : List Placed) (q s : ℕ) (busy : Bool) → Lawful i t → q < curriculum_count i → busy ≡ list_any (in_slot (members i q) s) t → cond busy 1 0 ≡ count_in_slot (members i q) t s
number_there i t q s busy h known is = ap (λ b. cond {A = ℕ} b 1 0) (is ∙ any_counted (in_slot (members i q) s) t) ∙ by (count_in_slot (members i q) t s) (one_there i t q s h known)
  where
    by : (n : ℕ) → n ≤ 1 → cond (ltb 0 n) 1 0 ≡ n
    by n few = grind (arith, nat_tests, few)
