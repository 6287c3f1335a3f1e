-- Counts over the lectures, and what one more lecture does to them.
use Rattle.std.proofs.Common.{◌≡◌, ℕ, zero, suc, ◌+◌, ◌<◌, Bool, true, false, cond, ◌&&◌, ◌||◌, ◌==◌, eqb, ltb, List, [], ◌∷◌, refl, ◌∙◌, sym, ap, arith, inl, inr}
use Rattle.std.specs.List.{filter, count_by, list_any}
use Rattle.std.proofs.lemmas.Bool.{cases_eq, eq-eqb, ne_eqb, lt-ltb}
use Rattle.ctt_problem.specs.Lists.{sum_below, count_below}
use Rattle.ctt_problem.specs.Problem.{Problem, room_count, day_of}
use Rattle.ctt_problem.specs.Timetable.{course_row}
use Rattle.ctt_problem.specs.declared.placed.Placed.{Placed}
use Rattle.ctt_rules.specs.Penalty.{days_of, rooms_of}
use Rattle.ctt_rules.proofs.SumLemmas.{sum_below_same, sum_below_add, sum_below_one, count_by-cons}
use Rattle.ctt_grid.specs.CostDelta.{on_day, in_room}

-- whether some element passes, by counting
pub any_counted : {X : Type 0} (p : X → Bool) (xs : List X) → list_any p xs ≡ ltb 0 (count_by p xs)
any_counted p [] = refl
any_counted p (x ∷ xs) = by (p x) (list_any p xs) (count_by p xs) (count_by p (x ∷ xs)) (count_by-cons p x xs) (any_counted p xs)
  where
    by : (b any : Bool) (n m : ℕ) → m ≡ cond b 1 0 + n → any ≡ ltb 0 n → (b || any) ≡ ltb 0 m
    by true any n m e h = sym (lt-ltb 0 m (omega (arith, e)))
    by false any n m e h = let same : m ≡ n = omega (arith, e) in h ∙ ap (ltb 0) (sym same)

pub count_filter : {X : Type 0} (p q : X → Bool) (xs : List X) → count_by p (filter q xs) ≡ count_by (λ x. q x && p x) xs
count_filter p q [] = refl
count_filter p q (x ∷ xs) = by (q x) (count_filter p q xs) ∙ sym (count_by-cons (λ x. q x && p x) x xs)
  where
    by : (b : Bool) → count_by p (filter q xs) ≡ count_by (λ x. q x && p x) xs → count_by p (cond b (x ∷ filter q xs) (filter q xs)) ≡ cond (b && p x) 1 0 + count_by (λ x. q x && p x) xs
    by true h = count_by-cons p x (filter q xs) ∙ ap (λ n. cond (p x) 1 0 + n) h
    by false h = omega (arith, h)

-- of numbers of which one counts one more
pub one_more : (f g : ℕ → ℕ) (k n : ℕ) → ((d : ℕ) → g d ≡ cond (d == k) 1 0 + f d) → k < n → count_below (λ d. ltb 0 (g d)) n ≡ count_below (λ d. ltb 0 (f d)) n + cond (f k == 0) 1 0
one_more f g k n h lt =
    sum_below_same (λ d. cond (ltb 0 (g d)) 1 0) (λ d. cond (ltb 0 (f d)) 1 0 + cond (eqb k d) (cond (f k == 0) 1 0) 0) n each
    ∙ sum_below_add (λ d. cond (ltb 0 (f d)) 1 0) (λ d. cond (eqb k d) (cond (f k == 0) 1 0) 0) n
    ∙ ap (λ m. count_below (λ d. ltb 0 (f d)) n + m) (sum_below_one (cond (f k == 0) 1 0) k n lt)
  where
    here : (m : ℕ) → cond (ltb 0 (1 + m)) 1 0 ≡ cond (ltb 0 m) 1 0 + cond (m == 0) 1 0
    here m = elim (cases_eq m 0) [
      | inl z ↦ rw z refl
      | inr nz ↦ rw (lt-ltb 0 (1 + m) (omega arith), lt-ltb 0 m (omega (arith, nz)), ne_eqb m 0 nz) refl
    ]

    each : (d : ℕ) → cond (ltb 0 (g d)) 1 0 ≡ cond (ltb 0 (f d)) 1 0 + cond (eqb k d) (cond (f k == 0) 1 0) 0
    each d = elim (cases_eq k d) [
      | inl same ↦ (
          let e : g d ≡ 1 + f d = h d ∙ ap (λ b. cond b 1 0 + f d) (eq-eqb d k (sym same)) in
          rw (e, eq-eqb k d same) (here (f d) ∙ ap (λ x. cond (ltb 0 (f d)) 1 0 + cond (f x == 0) 1 0) (sym same)))
      | inr other ↦ (
          let e : g d ≡ f d = omega (arith, h d ∙ ap (λ b. cond b 1 0 + f d) (ne_eqb d k (λ z. other (sym z)))) in
          rw (e, ne_eqb k d other) (omega arith))
    ]

-- sums of which one term differs
pub one_term : (f g : ℕ → ℕ) (k n a b : ℕ) → ((c : ℕ) → (c == k) ≡ false → f c ≡ g c) → k < n → f k + a ≡ g k + b → sum_below f n + a ≡ sum_below g n + b
one_term f g k zero a b h lt e = absurd (omega (arith, lt))
one_term f g k (suc n) a b h lt e = elim (cases_eq k n) [
  | inl same ↦ (
      let rest : sum_below f n ≡ sum_below g n = below_same n (λ c less. h c (ne_eqb c k (λ z. omega (arith, z, less, same)))) in
      let here : f n + a ≡ g n + b = ap (λ x. f x + a) (sym same) ∙ e ∙ ap (λ x. g x + b) same in
      omega (arith, rest, here))
  | inr other ↦ (
      let rest = one_term f g k n a b h (omega (arith, lt, other)) e in
      let here : f n ≡ g n = h n (ne_eqb n k (λ z. other (sym z))) in
      omega (arith, rest, here))
]
  where
    below_same : (m : ℕ) → ((c : ℕ) → c < m → f c ≡ g c) → sum_below f m ≡ sum_below g m
    below_same zero h = refl
    below_same (suc m) h = omega (arith, below_same m (λ c less. h c (omega (arith, less))), h m (omega arith))

module _ (i : Problem) where
  -- the days of a course, by counts
  pub days_counted : (c : ℕ) (ls : List Placed) → days_of i (course_row c ls) ≡ count_below (λ d. ltb 0 (count_by (on_day i c d) ls)) i.days
  days_counted c ls = sum_below_same (λ d. cond (list_any (λ x. day_of i x.slot == d) (course_row c ls)) 1 0) (λ d. cond (ltb 0 (count_by (on_day i c d) ls)) 1 0) i.days
      (λ d. ap (λ b. cond {A = ℕ} b 1 0) (any_counted (λ x. day_of i x.slot == d) (course_row c ls) ∙ ap (ltb 0) (count_filter (λ x. day_of i x.slot == d) (λ x. x.course == c) ls)))

  pub rooms_counted : (c : ℕ) (ls : List Placed) → rooms_of i (course_row c ls) ≡ count_below (λ r. ltb 0 (count_by (in_room c r) ls)) (room_count i)
  rooms_counted c ls = sum_below_same (λ r. cond (list_any (λ x. x.room == r) (course_row c ls)) 1 0) (λ r. cond (ltb 0 (count_by (in_room c r) ls)) 1 0) (room_count i)
      (λ r. ap (λ b. cond {A = ℕ} b 1 0) (any_counted (λ x. x.room == r) (course_row c ls) ∙ ap (ltb 0) (count_filter (λ x. x.room == r) (λ x. x.course == c) ls)))
