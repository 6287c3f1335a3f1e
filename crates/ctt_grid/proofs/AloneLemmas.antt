-- What adding one lecture does to those that stand alone, slot by slot.
use Rattle.std.proofs.Common.{◌≡◌, ℕ, zero, suc, ◌+◌, ◌-◌, ◌*◌, ◌<◌, ◌≤◌, Bool, true, false, cond, not, ◌&&◌, ◌||◌, ◌==◌, eqb, ltb, List, [], ◌∷◌, refl, ◌∙◌, sym, ap, ap₂, arith, inl, inr}
use Rattle.std.specs.List.{count_by, AllByRecursion as Each}
use Rattle.std.proofs.Math.Nat.{suc-mul, mul-le-mul_right}
use Rattle.std.proofs.lemmas.Nat.{div-add-mod'}
use Rattle.std.proofs.lemmas.Bool.{cases_eq, eq-eqb, ne_eqb, lt-ltb, ltb-true}
use Rattle.std.proofs.lemmas.Bool.Decides.{nat_tests}
use Rattle.ctt_problem.specs.Lists.{has, sum_below}
use Rattle.ctt_problem.specs.Problem.{Problem, slot_count, day_of, period_of}
use Rattle.ctt_problem.specs.declared.placed.Placed.{Placed}
use Rattle.ctt_rules.specs.Penalty.{next_to, lectures_of, alone_cost}
use Rattle.ctt_rules.specs.Neighbours.{busy, is_beside}
use Rattle.ctt_rules.proofs.ListLemmas.{Each-filter}
use Rattle.ctt_rules.proofs.NeighbourLemmas.{by_period, alone_is}
use Rattle.ctt_rules.proofs.SlotLemmas.{day_fits, periods_above}
use Rattle.ctt_rules.proofs.SumLemmas.{sum_below_same, sum_below_add, sum_below_one, sum_below_zero, count_by-cons}
use Rattle.ctt_grid.specs.CostDelta.{count_in_slot, alone_at, alone_beside, stands_alone}
use Rattle.ctt_grid.proofs.CountedLemmas.{any_counted, count_filter}

pub sum_below_balance : (a b c d : ℕ → ℕ) (n : ℕ) → ((k : ℕ) → a k + b k ≡ c k + d k) → sum_below a n + sum_below b n ≡ sum_below c n + sum_below d n
sum_below_balance a b c d zero h = refl
sum_below_balance a b c d (suc n) h = omega (arith, sum_below_balance a b c d n h, h n)

-- the sum of what stands at one number, if at all
sum_one_if : (b : Bool) (v j n : ℕ) → (b ≡ true → j < n) → sum_below (λ x. cond (eqb j x) (cond b v 0) 0) n ≡ cond b v 0
sum_one_if true v j n lt = sum_below_one v j n (lt refl)
sum_one_if false v j n lt = sum_below_zero (λ x. cond (eqb j x) 0 0) n (λ x less. by (eqb j x))
  where
    by : (b : Bool) → cond {A = ℕ} b 0 0 ≡ 0
    by true = refl
    by false = refl

-- the slot after one is a slot, on the same day
pub next_fits : (i : Problem) (s : ℕ) → s < slot_count i → ltb (period_of i s + 1) i.periods ≡ true → s + 1 < slot_count i
next_fits i s lt e =
    let q : ℕ = day_of i s in
    let split : q * i.periods + period_of i s ≡ s = div-add-mod' s i.periods in
    let day : suc q * i.periods ≤ i.days * i.periods = mul-le-mul_right i.periods (day_fits i s lt) in
    omega (arith, split, day, suc-mul q i.periods, ltb-true (period_of i s + 1) i.periods e)

-- f counts lectures by slot, and g the same lectures and one in slot s
module _ (i : Problem) (f g : ℕ → ℕ) (s : ℕ) (more : (k : ℕ) → g k ≡ cond (k == s) 1 0 + f k) (lt : s < slot_count i) where
  used_more : (k : ℕ) → ltb 0 (g k) ≡ (s == k || ltb 0 (f k))
  used_more k = elim (cases_eq k s) [
    | inl same ↦ rw (eq-eqb s k (sym same)) (lt-ltb 0 (g k) (omega (arith, more k ∙ ap (λ b. cond b 1 0 + f k) (eq-eqb k s same))))
    | inr other ↦ (
        let e : g k ≡ f k = omega (arith, more k ∙ ap (λ b. cond b 1 0 + f k) (ne_eqb k s other)) in
        rw (ne_eqb s k (λ z. other (sym z)), e) refl)
  ]

  beside_more : (k : ℕ) → is_beside i (λ x. ltb 0 (g x)) k ≡ (is_beside i (λ x. ltb 0 (f x)) k || next_to i k s)
  beside_more k =
      ap₂ (λ a b. (ltb 0 (period_of i k) && a) || (ltb (period_of i k + 1) i.periods && b)) (used_more (k - 1)) (used_more (k + 1))
      ∙ by (ltb 0 (period_of i k)) (ltb (period_of i k + 1) i.periods) (s == k - 1) (s == k + 1) (ltb 0 (f (k - 1))) (ltb 0 (f (k + 1)))
      ∙ ap (λ b. is_beside i (λ x. ltb 0 (f x)) k || b) (sym (by_period i k s (periods_above i s lt)))
    where
      by : (a b x y p q : Bool) → ((a && (x || p)) || (b && (y || q))) ≡ (((a && p) || (b && q)) || ((a && x) || (b && y)))
      by a b x y p q = grind arith

  -- slot by slot
  each_slot : (k : ℕ) → alone_at i g k + cond (next_to i s k) (alone_at i f k) 0 ≡ alone_at i f k + cond (eqb s k) (stands_alone i f s) 0
  each_slot k = elim (cases_eq k s) [
    | inl same ↦ (
        let none : next_to i s k ≡ false = ap (next_to i s) same ∙ not_itself in
        let beside : is_beside i (λ x. ltb 0 (g x)) k ≡ is_beside i (λ x. ltb 0 (f x)) k = beside_more k ∙ ap (λ b. is_beside i (λ x. ltb 0 (f x)) k || b) (turned k ∙ none) ∙ or_no (is_beside i (λ x. ltb 0 (f x)) k) in
        let here : g k ≡ 1 + f k = more k ∙ ap (λ b. cond b 1 0 + f k) (eq-eqb k s same) in
        let mine : stands_alone i f s ≡ stands_alone i f k = ap (stands_alone i f) (sym same) in
        rw (none, beside, here, eq-eqb s k (sym same), mine) (by_one (is_beside i (λ x. ltb 0 (f x)) k) (f k)))
    | inr other ↦ (
        let here : g k ≡ f k = omega (arith, more k ∙ ap (λ b. cond b 1 0 + f k) (ne_eqb k s other)) in
        let beside : is_beside i (λ x. ltb 0 (g x)) k ≡ (is_beside i (λ x. ltb 0 (f x)) k || next_to i s k) = beside_more k ∙ ap (λ b. is_beside i (λ x. ltb 0 (f x)) k || b) (turned k) in
        rw (beside, here, ne_eqb s k (λ z. other (sym z))) (by_two (is_beside i (λ x. ltb 0 (f x)) k) (next_to i s k) (f k)))
  ]
    where
      turned : (k : ℕ) → next_to i k s ≡ next_to i s k
      turned k = grind (arith, nat_tests)

      not_itself : next_to i s s ≡ false
      not_itself = grind (arith, nat_tests)

      or_no : (b : Bool) → (b || false) ≡ b
      or_no b = grind arith

      by_one : (b : Bool) (m : ℕ) → cond b 0 (1 + m) + 0 ≡ cond b 0 m + cond b 0 1
      by_one true m = refl
      by_one false m = omega arith

      by_two : (b n : Bool) (m : ℕ) → cond (b || n) 0 m + cond n (cond b 0 m) 0 ≡ cond b 0 m + 0
      by_two true true m = refl
      by_two true false m = refl
      by_two false true m = omega arith
      by_two false false m = refl

  -- those in the slots beside it
  beside_sum : sum_below (λ k. cond (next_to i s k) (alone_at i f k) 0) (slot_count i) ≡ alone_beside i f s
  beside_sum =
      let a : Bool = ltb 0 (period_of i s) in
      let b : Bool = ltb (period_of i s + 1) i.periods in
      sum_below_same (λ k. cond (next_to i s k) (alone_at i f k) 0) (λ k. cond (eqb (s - 1) k) (cond a (alone_at i f (s - 1)) 0) 0 + cond (eqb (s + 1) k) (cond b (alone_at i f (s + 1)) 0) 0) (slot_count i) each
      ∙ sum_below_add (λ k. cond (eqb (s - 1) k) (cond a (alone_at i f (s - 1)) 0) 0) (λ k. cond (eqb (s + 1) k) (cond b (alone_at i f (s + 1)) 0) 0) (slot_count i)
      ∙ ap₂ (λ x y. x + y) (sum_one_if a (alone_at i f (s - 1)) (s - 1) (slot_count i) (λ e. omega (arith, lt))) (sum_one_if b (alone_at i f (s + 1)) (s + 1) (slot_count i) (next_fits i s lt))
    where
      at : (a b : Bool) (v : ℕ → ℕ) (k : ℕ) → cond ((a && k == s - 1) || (b && k == s + 1)) (v k) 0 ≡ cond (eqb (s - 1) k) (cond a (v (s - 1)) 0) 0 + cond (eqb (s + 1) k) (cond b (v (s + 1)) 0) 0
      at a b v k = elim (cases_eq k (s - 1)) [
        | inl same ↦ (
            let no' : (k == s + 1) ≡ false = ne_eqb k (s + 1) (λ e. omega (arith, e, same)) in
            let no2 : eqb (s + 1) k ≡ false = ne_eqb (s + 1) k (λ e. omega (arith, e, same)) in
            rw (eq-eqb k (s - 1) same, no', no2, eq-eqb (s - 1) k (sym same)) (left a b (v k) (v (s - 1)) (ap v same)))
        | inr other ↦ elim (cases_eq k (s + 1)) [
          | inl same ↦ rw (ne_eqb k (s - 1) other, ne_eqb (s - 1) k (λ z. other (sym z)), eq-eqb k (s + 1) same, eq-eqb (s + 1) k (sym same)) (right a b (v k) (v (s + 1)) (ap v same))
          | inr apart ↦ rw (ne_eqb k (s - 1) other, ne_eqb (s - 1) k (λ z. other (sym z)), ne_eqb k (s + 1) apart, ne_eqb (s + 1) k (λ z. apart (sym z))) (neither a b (v k))
        ]
      ]
        where
          left : (a b : Bool) (x y : ℕ) → x ≡ y → cond ((a && true) || (b && false)) x 0 ≡ cond a y 0 + 0
          left true b x y e = omega (arith, e)
          left false true x y e = refl
          left false false x y e = refl

          right : (a b : Bool) (x y : ℕ) → x ≡ y → cond ((a && false) || (b && true)) x 0 ≡ 0 + cond b y 0
          right true true x y e = omega (arith, e)
          right true false x y e = refl
          right false true x y e = omega (arith, e)
          right false false x y e = refl

          neither : (a b : Bool) (x : ℕ) → cond ((a && false) || (b && false)) x 0 ≡ 0 + 0
          neither true true x = refl
          neither true false x = refl
          neither false true x = refl
          neither false false x = refl

      each : (k : ℕ) → cond (next_to i s k) (alone_at i f k) 0 ≡ cond (eqb (s - 1) k) (cond (ltb 0 (period_of i s)) (alone_at i f (s - 1)) 0) 0 + cond (eqb (s + 1) k) (cond (ltb (period_of i s + 1) i.periods) (alone_at i f (s + 1)) 0) 0
      each k = ap (λ b. cond b (alone_at i f k) 0) (by_period i s k (periods_above i s lt)) ∙ at (ltb 0 (period_of i s)) (ltb (period_of i s + 1) i.periods) (alone_at i f) k

  pub one_more_alone : sum_below (alone_at i g) (slot_count i) + alone_beside i f s ≡ sum_below (alone_at i f) (slot_count i) + stands_alone i f s
  one_more_alone =
      let sums = sum_below_balance (alone_at i g) (λ k. cond (next_to i s k) (alone_at i f k) 0) (alone_at i f) (λ k. cond (eqb s k) (stands_alone i f s) 0) (slot_count i) each_slot in
      omega (arith, sums, beside_sum, sum_below_one (stands_alone i f s) s (slot_count i) lt)

-- lectures by slot, if their slot passes
by_slots : (b : ℕ → Bool) (n : ℕ) (ls : List Placed) → Each (λ (l : Placed). l.slot < n) ls → count_by (λ (l : Placed). not (b l.slot)) ls ≡ sum_below (λ s. cond (b s) 0 (count_by (λ (l : Placed). l.slot == s) ls)) n
by_slots b n [] h = sym (sum_below_zero (λ s. cond (b s) 0 0) n (λ s lt. by (b s)))
  where
    by : (x : Bool) → cond {A = ℕ} x 0 0 ≡ 0
    by true = refl
    by false = refl
by_slots b n (x ∷ xs) h =
    let split : sum_below (λ s. cond (b s) 0 (count_by (λ (l : Placed). l.slot == s) (x ∷ xs))) n ≡ sum_below (λ s. cond (eqb x.slot s) (cond (b x.slot) 0 1) 0) n + sum_below (λ s. cond (b s) 0 (count_by (λ (l : Placed). l.slot == s) xs)) n =
    sum_below_same (λ s. cond (b s) 0 (count_by (λ (l : Placed). l.slot == s) (x ∷ xs))) (λ s. cond (eqb x.slot s) (cond (b x.slot) 0 1) 0 + cond (b s) 0 (count_by (λ (l : Placed). l.slot == s) xs)) n each
    ∙ sum_below_add (λ s. cond (eqb x.slot s) (cond (b x.slot) 0 1) 0) (λ s. cond (b s) 0 (count_by (λ (l : Placed). l.slot == s) xs)) n in
    omega (arith, split, sum_below_one (cond (b x.slot) 0 1) x.slot n h.0, by_slots b n xs h.1, count_by-cons (λ (l : Placed). not (b l.slot)) x xs, turn (b x.slot))
  where
    turn : (c : Bool) → cond {A = ℕ} (not c) 1 0 ≡ cond {A = ℕ} c 0 1
    turn true = refl
    turn false = refl

    each : (s : ℕ) → cond (b s) 0 (count_by (λ (l : Placed). l.slot == s) (x ∷ xs)) ≡ cond (eqb x.slot s) (cond (b x.slot) 0 1) 0 + cond (b s) 0 (count_by (λ (l : Placed). l.slot == s) xs)
    each s = elim (cases_eq x.slot s) [
      | inl same ↦ (
          let e = count_by-cons (λ (l : Placed). l.slot == s) x xs ∙ ap (λ c. cond c 1 0 + count_by (λ (l : Placed). l.slot == s) xs) (eq-eqb x.slot s same) in
          rw (e, eq-eqb x.slot s same, ap b same) (here (b s) (count_by (λ (l : Placed). l.slot == s) xs)))
      | inr other ↦ (
          let e = count_by-cons (λ (l : Placed). l.slot == s) x xs ∙ ap (λ c. cond c 1 0 + count_by (λ (l : Placed). l.slot == s) xs) (ne_eqb x.slot s other) in
          rw (e, ne_eqb x.slot s other) (there (b s) (count_by (λ (l : Placed). l.slot == s) xs)))
    ]
      where
        here : (c : Bool) (m : ℕ) → cond c 0 (cond true 1 0 + m) ≡ cond c 0 1 + cond c 0 m
        here true m = refl
        here false m = refl

        there : (c : Bool) (m : ℕ) → cond c 0 (cond false 1 0 + m) ≡ 0 + cond c 0 m
        there true m = refl
        there false m = omega arith

-- what a curriculum costs, by its counts
pub alone_counted : (i : Problem) (q : List ℕ) (t : List Placed) → Each (λ (l : Placed). l.slot < slot_count i) t → alone_cost i (lectures_of q t) ≡ 2 * sum_below (alone_at i (count_in_slot q t)) (slot_count i)
alone_counted i q t h =
    let part : List Placed = lectures_of q t in
    let fits = Each-filter (λ (l : Placed). l.slot < slot_count i) (λ l. has l.course q) t h in
    let marks : ℕ → Bool = λ s. ltb 0 (count_in_slot q t s) in
    let counts : (s : ℕ) → count_by (λ (l : Placed). l.slot == s) part ≡ count_in_slot q t s = λ s. count_filter (λ (l : Placed). l.slot == s) (λ l. has l.course q) t in
    let same : (s : ℕ) → marks s ≡ busy part s = λ s. sym (any_counted (λ (l : Placed). l.slot == s) part ∙ ap (ltb 0) (counts s)) in
    ap (λ n. 2 * n) (alone_is i part marks fits same ∙ by_slots (is_beside i marks) (slot_count i) part fits
    ∙ sum_below_same (λ s. cond (is_beside i marks s) 0 (count_by (λ (l : Placed). l.slot == s) part)) (alone_at i (count_in_slot q t)) (slot_count i) (λ s. ap (λ n. cond (is_beside i marks s) 0 n) (counts s)))
