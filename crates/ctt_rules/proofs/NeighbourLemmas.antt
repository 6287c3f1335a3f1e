-- Adjacent slots, and isolated lectures.
use Rattle.std.proofs.Common.{◌≡◌, ℕ, suc, ◌+◌, ◌-◌, ◌*◌, ◌/◌, ◌%◌, ◌<◌, ◌≤◌, Bool, true, false, cond, not, ◌&&◌, ◌||◌, ◌==◌, ltb, List, [], ◌∷◌, refl, ◌∙◌, sym, ap, ap₂, arith, inl, inr, ◌⊎◌}
use Rattle.std.specs.List.{count_by, list_any, AllByRecursion as Each}
use Rattle.std.proofs.lemmas.Bool.{cases_eq, cases_lt, eq-eqb, ne_eqb, lt-ltb, le-ltb}
use Rattle.std.proofs.lemmas.Nat.{div-add-mod', div-mul-add, mod-mul-add, mod_below}
use Rattle.std.proofs.Math.Nat.{suc-mul}
use Rattle.ctt_problem.specs.Problem.{Problem, day_of, period_of, slot_count}
use Rattle.ctt_problem.specs.declared.placed.Placed.{Placed}
use Rattle.ctt_rules.specs.Penalty.{next_to, is_alone}
use Rattle.ctt_rules.specs.Neighbours.{busy, is_beside}
use Rattle.ctt_rules.proofs.SlotLemmas.{periods_above}
use Rattle.ctt_rules.proofs.SumLemmas.{count_by-cons}

-- the next slot has the next period of the day, or begins the next day
module _ (p s : ℕ) (some : 0 < p) where
  split : s / p * p + s % p ≡ s
  split = div-add-mod' s p

  same_day : s % p + 1 < p → ((s + 1) / p ≡ s / p) × ((s + 1) % p ≡ s % p + 1)
  same_day lt =
      let e : s + 1 ≡ s / p * p + (s % p + 1) = omega (arith, split) in
      (ap (λ n. n / p) e ∙ div-mul-add (s / p) p (s % p + 1) lt, ap (λ n. n % p) e ∙ mod-mul-add (s / p) p (s % p + 1) lt)

  next_day : p ≤ s % p + 1 → ((s + 1) / p ≡ suc (s / p)) × ((s + 1) % p ≡ 0)
  next_day le =
      let e : s + 1 ≡ suc (s / p) * p + 0 = omega (arith, split, le, mod_below s p some, suc-mul (s / p) p) in
      (ap (λ n. n / p) e ∙ div-mul-add (suc (s / p)) p 0 some, ap (λ n. n % p) e ∙ mod-mul-add (suc (s / p)) p 0 some)

  goes_on : (s / p == (s + 1) / p) ≡ ltb (s % p + 1) p
  goes_on = elim (cases_lt (s % p + 1) p) [
    | inl lt ↦ eq-eqb (s / p) ((s + 1) / p) (sym (same_day lt).0) ∙ sym (lt-ltb (s % p + 1) p lt)
    | inr le ↦ ne_eqb (s / p) ((s + 1) / p) (λ e. omega (arith, e, (next_day le).0)) ∙ sym (le-ltb (s % p + 1) p le)
  ]

  came_on : ((s + 1) / p == s / p) ≡ ltb 0 ((s + 1) % p)
  came_on = elim (cases_lt (s % p + 1) p) [
    | inl lt ↦ eq-eqb ((s + 1) / p) (s / p) (same_day lt).0 ∙ sym (lt-ltb 0 ((s + 1) % p) (omega (arith, (same_day lt).1)))
    | inr le ↦ ne_eqb ((s + 1) / p) (s / p) (λ e. omega (arith, e, (next_day le).0)) ∙ sym (le-ltb 0 ((s + 1) % p) (omega (arith, (next_day le).1)))
  ]

-- two slots are adjacent exactly if one is directly before or after the other, on the same day
pub by_period : (i : Problem) (s m : ℕ) → 0 < i.periods → next_to i s m ≡ ((ltb 0 (period_of i s) && m == s - 1) || (ltb (period_of i s + 1) i.periods && m == s + 1))
by_period i s m some = elim (cases_eq m (s + 1)) [
  | inl same ↦ (
      let k1 : (s + 1 == m) ≡ true = eq-eqb (s + 1) m (sym same) in
      let k2 : (m == s + 1) ≡ true = eq-eqb m (s + 1) same in
      let k3 : (m == s - 1) ≡ false = ne_eqb m (s - 1) (λ e. omega (arith, e)) in
      let day : (day_of i s == day_of i m) ≡ ltb (period_of i s + 1) i.periods = ap (λ k. day_of i s == day_of i k) same ∙ goes_on i.periods s some in
      rw (k1, k2, k3, day) (after_it (ltb (period_of i s + 1) i.periods) (ltb 0 (period_of i s)) (m + 1 == s)))
  | inr other ↦ (
      let k1 : (s + 1 == m) ≡ false = ne_eqb (s + 1) m (λ e. other (sym e)) in
      let k2 : (m == s + 1) ≡ false = ne_eqb m (s + 1) other in
      elim (cases_eq (m + 1) s) [
        | inl next ↦ (
            let k3 : (m + 1 == s) ≡ true = eq-eqb (m + 1) s next in
            let k4 : (m == s - 1) ≡ true = eq-eqb m (s - 1) (omega (arith, next)) in
            let day : (day_of i s == day_of i m) ≡ ltb 0 (period_of i s) = ap (λ k. day_of i k == day_of i m) (sym next) ∙ came_on i.periods m some ∙ ap (λ k. ltb 0 (period_of i k)) next in
            rw (k1, k2, k3, k4, day) (before_it (ltb 0 (period_of i s)) (ltb (period_of i s + 1) i.periods)))
        | inr not_next ↦ (
            let k3 : (m + 1 == s) ≡ false = ne_eqb (m + 1) s not_next in
            rw (k1, k2, k3) (neither_is (day_of i s == day_of i m) (ltb 0 (period_of i s)) (m == s - 1) (ltb (period_of i s + 1) i.periods) (apart not_next)))
      ])
]
  where
    after_it : (a b c : Bool) → (a && (true || c)) ≡ ((b && false) || (a && true))
    after_it a b c = grind arith

    before_it : (a b : Bool) → (a && (false || true)) ≡ ((a && true) || (b && false))
    before_it a b = grind arith

    neither_is : (a b c d : Bool) → (b ≡ false) ⊎ (c ≡ false) → (a && (false || false)) ≡ ((b && c) || (d && false))
    neither_is a b c d (inl h) = grind arith
    neither_is a b c d (inr h) = grind arith

    apart : (m + 1 ≡ s → ⊥) → (ltb 0 (period_of i s) ≡ false) ⊎ ((m == s - 1) ≡ false)
    apart h = elim (cases_eq s 0) [
      | inl first ↦ inl (le-ltb 0 (period_of i s) (omega (arith, ap (λ k. period_of i k) first, mod_below 0 i.periods some)))
      | inr later ↦ inr (ne_eqb m (s - 1) (λ e. h (omega (arith, e, later))))
    ]

-- tests of the elements of a list
pub any_or : {X : Type 0} (p q : X → Bool) (xs : List X) → list_any (λ x. p x || q x) xs ≡ (list_any p xs || list_any q xs)
any_or p q [] = refl
any_or p q (x ∷ xs) = ap (λ b. (p x || q x) || b) (any_or p q xs) ∙ turn (p x) (q x) (list_any p xs) (list_any q xs)
  where
    turn : (a b c d : Bool) → ((a || b) || (c || d)) ≡ ((a || c) || (b || d))
    turn a b c d = grind arith

any_and : {X : Type 0} (b : Bool) (p : X → Bool) (xs : List X) → list_any (λ x. b && p x) xs ≡ (b && list_any p xs)
any_and true p xs = refl
any_and false p [] = refl
any_and false p (x ∷ xs) = any_and false p xs

pub any_same : {X : Type 0} (p q : X → Bool) (xs : List X) → ((x : X) → p x ≡ q x) → list_any p xs ≡ list_any q xs
any_same p q [] e = refl
any_same p q (x ∷ xs) e = ap₂ (λ a b. a || b) (e x) (any_same p q xs e)

-- some lecture is adjacent to a slot exactly if the slot before or the one after is busy
pub neighbour_is : (i : Problem) (ls : List Placed) (s : ℕ) → 0 < i.periods → list_any (λ m. next_to i s m.slot) ls ≡ is_beside i (busy ls) s
neighbour_is i ls s some =
    any_same (λ m. next_to i s m.slot) (λ m. (ltb 0 (period_of i s) && m.slot == s - 1) || (ltb (period_of i s + 1) i.periods && m.slot == s + 1)) ls (λ m. by_period i s m.slot some)
    ∙ any_or (λ m. ltb 0 (period_of i s) && m.slot == s - 1) (λ m. ltb (period_of i s + 1) i.periods && m.slot == s + 1) ls
    ∙ ap₂ (λ a b. a || b) (any_and (ltb 0 (period_of i s)) (λ m. m.slot == s - 1) ls) (any_and (ltb (period_of i s + 1) i.periods) (λ m. m.slot == s + 1) ls)

pub count_by-same : {X : Type 0} (p q : X → Bool) (xs : List X) → Each (λ x. p x ≡ q x) xs → count_by p xs ≡ count_by q xs
count_by-same p q [] h = refl
count_by-same p q (x ∷ xs) h = count_by-cons p x xs ∙ ap₂ (λ b n. cond b 1 0 + n) h.0 (count_by-same p q xs h.1) ∙ sym (count_by-cons q x xs)

-- the isolated lectures are those with no busy slot next to theirs
pub alone_is : (i : Problem) (ls : List Placed) (marks : ℕ → Bool) → Each (λ (l : Placed). l.slot < slot_count i) ls → ((s : ℕ) → marks s ≡ busy ls s) → count_by (is_alone i ls) ls ≡ count_by (λ l. not (is_beside i marks l.slot)) ls
alone_is i ls marks fits same = count_by-same (is_alone i ls) (λ l. not (is_beside i marks l.slot)) ls (each ls fits)
  where
    at : (s : ℕ) → s < slot_count i → list_any (λ m. next_to i s m.slot) ls ≡ is_beside i marks s
    at s lt = neighbour_is i ls s (periods_above i s lt)
        ∙ ap₂ (λ a b. (ltb 0 (period_of i s) && a) || (ltb (period_of i s + 1) i.periods && b)) (sym (same (s - 1))) (sym (same (s + 1)))

    each : (xs : List Placed) → Each (λ (l : Placed). l.slot < slot_count i) xs → Each (λ l. is_alone i ls l ≡ not (is_beside i marks l.slot)) xs
    each [] h = tt
    each (x ∷ xs) h = (ap not (at x.slot h.0), each xs h.1)
