-- What a lecture does to a curriculum that has none in its slot.
use Rattle.std.proofs.Common.{◌≡◌, ℕ, zero, suc, ◌+◌, ◌-◌, ◌<◌, ◌≤◌, Bool, true, false, cond, ◌&&◌, ◌||◌, ltb, List, [], ◌∷◌, ◌++◌, refl, ◌∙◌, ap, ap₂, arith, inl, inr}
use Rattle.std.specs.List.{count_by, AllByRecursion as Each}
use Rattle.std.proofs.lemmas.Bool.{cases_Bool, ltb-true, eq-eqb, lt-ltb}
use Rattle.std.proofs.lemmas.Bool.Decides.{nat_tests}
use Rattle.std.proofs.lemmas.List.Sums.{sum_by-append}
use Rattle.ctt_problem.specs.Belonging.{curricula_of}
use Rattle.ctt_problem.specs.BitRows.{is_marked_in}
use Rattle.ctt_problem.specs.Lists.{has, below}
use Rattle.ctt_problem.specs.Problem.{Problem, curriculum_count, slot_count, members, period_of}
use Rattle.ctt_problem.specs.declared.placed.Placed.{Placed}
use Rattle.ctt_rules.specs.Hard.{Lawful}
use Rattle.ctt_rules.proofs.SumLemmas.{count_by-cons}
use Rattle.ctt_board.proofs.MoreLemmas.{IsMore, counted_more}
use Rattle.ctt_grid.specs.CostDelta.{in_slot, alone_at, stands_alone, count_before, count_in_next}
use Rattle.ctt_grid.specs.Seen.{Sees, seen_curriculum, NoneThere, OneThere}
use Rattle.ctt_grid.specs.declared.counts_after.CountsAfter.{CountsAfter}
use Rattle.ctt_grid.proofs.OnceLemmas.{one_there}
use Rattle.ctt_grid.proofs.SeenLemmas.{curriculum_is}
use Rattle.ctt_grid.proofs.SlotFacts.{later_slot}

-- by the counts of the slots beside
module _ (i : Problem) (f : ℕ → ℕ) (s : ℕ) where
  pub stands_is : (n : ℕ) → n ≡ count_before i f s + count_in_next i f s → cond (ltb 0 n) 0 1 ≡ stands_alone i f s
  stands_is n e = ap (λ m. cond {A = ℕ} (ltb 0 m) 0 1) e ∙ by (ltb 0 (period_of i s)) (ltb (period_of i s + 1) i.periods) (f (s - 1)) (f (s + 1))
    where
      by : (a b : Bool) (m n : ℕ) → cond (ltb 0 (cond a m 0 + cond b n 0)) 0 1 ≡ cond {A = ℕ} ((a && ltb 0 m) || (b && ltb 0 n)) 0 1
      by true true m n = grind (arith, nat_tests)
      by true false m n = grind (arith, nat_tests)
      by false true m n = grind (arith, nat_tests)
      by false false m n = refl

  module _ (own : f s ≡ 0) where
    -- some there, so that there is such a slot
    pub some_before : (n : ℕ) → n ≡ count_before i f s → 0 < n → 0 < period_of i s
    some_before n e some = elim (cases_Bool (ltb 0 (period_of i s))) [
      | inl y ↦ ltb-true 0 (period_of i s) y
      | inr no' ↦ absurd (let z : n ≡ 0 = (rw no' at e) in omega (arith, z, some))
    ]

    pub some_after : (n : ℕ) → n ≡ count_in_next i f s → 0 < n → period_of i s + 1 < i.periods
    some_after n e some = elim (cases_Bool (ltb (period_of i s + 1) i.periods)) [
      | inl y ↦ ltb-true (period_of i s + 1) i.periods y
      | inr no' ↦ absurd (let z : n ≡ 0 = (rw no' at e) in omega (arith, z, some))
    ]

    pub alone_before_is : (n m : ℕ) → n ≡ count_before i f s → 0 < n → m ≡ count_before i f (s - 1) → cond (ltb 0 m) 0 n ≡ cond (ltb 0 (period_of i s)) (alone_at i f (s - 1)) 0
    alone_before_is n m e some is =
        let first : 0 < period_of i s = some_before n e some in
        let there : ltb 0 (period_of i s) ≡ true = lt-ltb 0 (period_of i s) first in
        let count : n ≡ f (s - 1) = (rw there at e) in
        let back : f (s - 1 + 1) ≡ 0 = ap f (let one : 1 ≤ s = later_slot i s first in omega arith) ∙ own in
        rw there (ap₂ (λ a b. cond a 0 b) (ap (ltb 0) is ∙ by (ltb 0 (period_of i (s - 1))) (ltb (period_of i (s - 1) + 1) i.periods) (f (s - 1 - 1)) (f (s - 1 + 1)) back) count)
      where
        by : (a b : Bool) (x y : ℕ) → y ≡ 0 → ltb 0 (cond a x 0) ≡ ((a && ltb 0 x) || (b && ltb 0 y))
        by true true x y z = rw z (or_false (ltb 0 x))
          where
            or_false : (b : Bool) → b ≡ (b || false)
            or_false true = refl
            or_false false = refl
        by true false x y z = or_false (ltb 0 x)
          where
            or_false : (b : Bool) → b ≡ (b || false)
            or_false true = refl
            or_false false = refl
        by false true x y z = rw z refl
        by false false x y z = refl

    pub alone_after_is : (n m : ℕ) → n ≡ count_in_next i f s → 0 < n → m ≡ count_in_next i f (s + 1) → cond (ltb 0 m) 0 n ≡ cond (ltb (period_of i s + 1) i.periods) (alone_at i f (s + 1)) 0
    alone_after_is n m e some is =
        let there : ltb (period_of i s + 1) i.periods ≡ true = lt-ltb (period_of i s + 1) i.periods (some_after n e some) in
        let count : n ≡ f (s + 1) = (rw there at e) in
        let back : f (s + 1 - 1) ≡ 0 = ap f (omega arith) ∙ own in
        rw there (ap₂ (λ a b. cond a 0 b) (ap (ltb 0) is ∙ by (ltb 0 (period_of i (s + 1))) (ltb (period_of i (s + 1) + 1) i.periods) (f (s + 1 - 1)) (f (s + 1 + 1)) back) count)
      where
        by : (a b : Bool) (x y : ℕ) → x ≡ 0 → ltb 0 (cond b y 0) ≡ ((a && ltb 0 x) || (b && ltb 0 y))
        by true true x y z = rw z refl
        by true false x y z = rw z refl
        by false true x y z = refl
        by false false x y z = refl

-- what holds of each number that passes
below_each : (P : ℕ → Type 0) (p : ℕ → Bool) (n : ℕ) → ((k : ℕ) → k < n → p k ≡ true → P k) → Each P (below p n)
below_each P p zero h = tt
below_each P p (suc n) h = both (below p n) (below_each P p n (λ k lt y. h k (omega (arith, lt)) y)) (p n) refl
  where
    both : (xs : List ℕ) → Each P xs → (b : Bool) → p n ≡ b → Each P (xs ++ cond b (n ∷ []) [])
    both [] e true y = (h n (omega arith) y, tt)
    both [] e false y = tt
    both (x ∷ xs) e b y = (e.0, both xs e.1 b y)

-- of each curriculum of a course
pub of_course : (i : Problem) (c : ℕ) (P : ℕ → Type 0) → ((q : ℕ) → q < curriculum_count i → has c (members i q) ≡ true → P q) → Each P (curricula_of i c)
of_course i c P h = below_each P (λ q. has c (members i q)) (curriculum_count i) h

module _ (i : Problem) (l : Placed) where
  pub mine : (q : ℕ) → has l.course (members i q) ≡ true → in_slot (members i q) l.slot l ≡ true
  mine q y = rw (y, eq-eqb l.slot l.slot refl) refl

  -- a lecture that can be added, and one that is there
  pub none_yet : (t u : List Placed) (v : CountsAfter) → IsMore l t u → Lawful i t → Lawful i u → Sees i v t → NoneThere i v l
  none_yet t u v more lt lu sees = of_course i l.course (λ q. seen_curriculum i v q l.slot ≡ 0) (λ q known y. omega (arith, curriculum_is i v t sees lt.timetable.fits q known l.slot, one_there i u q l.slot lu known, counted_more l t u more (in_slot (members i q) l.slot), ap (λ b. cond {A = ℕ} b 1 0) (mine q y)))

  pub one_seen : (t : List Placed) (v : CountsAfter) → Lawful i t → Sees i v t → OneThere i v l
  one_seen t v lt sees = of_course i l.course (λ q. seen_curriculum i v q l.slot ≤ 1) (λ q known y. omega (arith, curriculum_is i v t sees lt.timetable.fits q known l.slot, one_there i t q l.slot lt known))

  -- it leaves
  pub left_none : (v w : CountsAfter) → w.base.now ≡ v.base.now → w.added.items ≡ v.added.items → w.removed.items ≡ v.removed.items ++ l ∷ [] → OneThere i v l → NoneThere i w l
  left_none v w counts added removed one = step (curricula_of i l.course) one (of_course i l.course (λ q. in_slot (members i q) l.slot l ≡ true) (λ q known y. mine q y))
    where
      each : (q : ℕ) → seen_curriculum i v q l.slot ≤ 1 → in_slot (members i q) l.slot l ≡ true → seen_curriculum i w q l.slot ≡ 0
      each q few here = by (ltb l.slot (slot_count i)) few
        where
          p : Placed → Bool
          p = in_slot (members i q) l.slot

          gone : count_by p w.removed.items ≡ count_by p v.removed.items + 1
          gone = ap (count_by p) removed ∙ sum_by-append (λ x. cond (p x) 1 0) v.removed.items (l ∷ []) ∙ ap (λ n. count_by p v.removed.items + n) (count_by-cons p l [] ∙ ap (λ b. cond {A = ℕ} b 1 0 + 0) here)

          by : (b : Bool) → cond b ((cond (is_marked_in v.base.now.curricula q l.slot) 1 0 + count_by p v.added.items) - count_by p v.removed.items) 0 ≤ 1 → cond b ((cond (is_marked_in w.base.now.curricula q l.slot) 1 0 + count_by p w.added.items) - count_by p w.removed.items) 0 ≡ 0
          by true k = omega (arith, k, gone, ap (count_by p) added, ap (λ c. cond {A = ℕ} (is_marked_in c.curricula q l.slot) 1 0) counts)
          by false k = refl

      step : (qs : List ℕ) → Each (λ q. seen_curriculum i v q l.slot ≤ 1) qs → Each (λ q. in_slot (members i q) l.slot l ≡ true) qs → Each (λ q. seen_curriculum i w q l.slot ≡ 0) qs
      step [] h k = tt
      step (q ∷ qs) h k = (each q h.0 k.0, step qs h.1 k.1)
