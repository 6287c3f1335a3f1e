-- Counting different numbers by marking them.
use Rattle.std.proofs.Common.{◌≡◌, ℕ, ◌+◌, ◌<◌, ◌==◌, ◌||◌, Bool, true, false, cond, not, List, length, get_or, take, refl, sym, ap, ◌∙◌, arith, inl, inr, eqb}
use Rattle.std.specs.List.{list_any}
use Rattle.std.proofs.lemmas.Bool.{cases_eq, eq-eqb, ne_eqb}
use Rattle.std.proofs.lemmas.List.Folds.{list_any_more}
use Rattle.ctt_problem.specs.Lists.{count_below}
use Rattle.ctt_problem.specs.Marks.{is_marked}
use Rattle.ctt_rules.proofs.SumLemmas.{sum_below_same, sum_below_add, sum_below_one}

-- one more number that passes adds one to the count if it did not pass before
count_below_or : (p : ℕ → Bool) (j n : ℕ) → j < n → count_below (λ d. p d || (j == d)) n ≡ count_below p n + cond (p j) 0 1
count_below_or p j n lt =
    sum_below_same (λ d. cond (p d || (j == d)) 1 0) (λ d. cond (p d) 1 0 + cond (eqb j d) (cond (p j) 0 1) 0) n each
    ∙ sum_below_add (λ d. cond (p d) 1 0) (λ d. cond (eqb j d) (cond (p j) 0 1) 0) n ∙ ap (λ k. count_below p n + k) (sum_below_one (cond (p j) 0 1) j n lt)
  where
    at : (b : Bool) → ◌≡◌ {A = ℕ} (cond (b || true) 1 0) (cond b 1 0 + cond b 0 1)
    at true = refl
    at false = refl

    off : (b : Bool) → ◌≡◌ {A = ℕ} (cond (b || false) 1 0) (cond b 1 0 + 0)
    off true = refl
    off false = refl

    each : (d : ℕ) → cond (p d || (j == d)) 1 0 ≡ cond (p d) 1 0 + cond (eqb j d) (cond (p j) 0 1) 0
    each d = elim (cases_eq j d) [
      | inl same ↦ (let yes' : eqb j d ≡ true = eq-eqb j d same in rw yes' (at (p d) ∙ ap (λ k. cond (p d) 1 0 + cond (p k) 0 1) (sym same)))
      | inr other ↦ (let no' : eqb j d ≡ false = ne_eqb j d other in rw no' (off (p d)))
    ]

-- how many different numbers below n the elements of a list have
abbrev pub distinct : {X : Type 0} → (X → ℕ) → ℕ → List X → ℕ
distinct f n xs = count_below (λ d. list_any (λ x. f x == d) xs) n

-- one more element, whose number is marked
module _ {X : Type 0} (f : X → ℕ) (n : ℕ) (xs : List X) (i m : ℕ) (x : X) (old new : List ℕ) (within : i < length xs) (at : x ≡ get_or xs i x) (is : m ≡ f x)
    (marked : (d : ℕ) → is_marked old d ≡ list_any (λ y. f y == d) (take i xs)) where
  any_here : (d : ℕ) → list_any (λ y. f y == d) (take (i + 1) xs) ≡ (list_any (λ y. f y == d) (take i xs) || (f x == d))
  any_here d = list_any_more (λ y. f y == d) xs i x within ∙ ap (λ y. list_any (λ z. f z == d) (take i xs) || (f y == d)) (sym at)

  pub marked_more : ((d : ℕ) → is_marked new d ≡ (d == m || is_marked old d)) → (d : ℕ) → is_marked new d ≡ list_any (λ y. f y == d) (take (i + 1) xs)
  marked_more after d = after d ∙ ap (λ k. d == k || is_marked old d) is ∙ ap (λ b. d == f x || b) (marked d) ∙ flip (d == f x) (list_any (λ y. f y == d) (take i xs)) ∙ ap (λ b. list_any (λ y. f y == d) (take i xs) || b) (turn d (f x)) ∙ sym (any_here d)
    where
      flip : (a b : Bool) → (a || b) ≡ (b || a)
      flip true true = refl
      flip true false = refl
      flip false true = refl
      flip false false = refl

      turn : (a b : ℕ) → (a == b) ≡ (b == a)
      turn a b = grind arith

  pub distinct_more : (count more : ℕ) → m < n → count ≡ distinct f n (take i xs) → more ≡ cond (not (is_marked old m)) (count + 1) count → more ≡ distinct f n (take (i + 1) xs)
  distinct_more count more fits so_far counted =
      counted ∙ ap (λ k. cond (not (is_marked old k)) (count + 1) count) is ∙ by (is_marked old (f x)) ∙ ap (λ c. c + cond (is_marked old (f x)) 0 1) so_far ∙ ap (λ b. distinct f n (take i xs) + cond b 0 1) (marked (f x))
      ∙ sym (count_below_or (λ d. list_any (λ y. f y == d) (take i xs)) (f x) n (omega (arith, fits, is)))
      ∙ sum_below_same (λ d. cond (list_any (λ y. f y == d) (take i xs) || (f x == d)) 1 0) (λ d. cond (list_any (λ y. f y == d) (take (i + 1) xs)) 1 0) n (λ d. ap (λ b. cond b 1 0) (sym (any_here d)))
    where
      by : (b : Bool) → cond (not b) (count + 1) count ≡ count + cond b 0 1
      by true = omega arith
      by false = refl
