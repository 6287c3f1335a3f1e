-- Sums over numbers and over lists.
use Rattle.std.proofs.Common.{◌≡◌, ℕ, zero, suc, ◌+◌, ◌*◌, ◌<◌, ◌≤◌, true, false, cond, eqb, Bool, List, [], ◌∷◌, length, refl, sym, ap₂, ◌∙◌, arith, inl, inr, add-one}
use Rattle.std.specs.List.{sum_by, count_by}
use Rattle.std.proofs.lemmas.Bool.{cases_eq, eq-eqb, ne_eqb}
use Rattle.std.proofs.lemmas.List.Sums.{sum_by-cons}
use Rattle.ctt_problem.specs.Lists.{sum_below, count_below}

-- a sum with one more number
pub sum_below_more : (f : ℕ → ℕ) (n : ℕ) → sum_below f (n + 1) ≡ sum_below f n + f n
sum_below_more f n = rw add-one refl

pub sum_below_same : (f g : ℕ → ℕ) (n : ℕ) → ((x : ℕ) → f x ≡ g x) → sum_below f n ≡ sum_below g n
sum_below_same f g zero e = refl
sum_below_same f g (suc n) e = let here : f n ≡ g n = e n in omega (arith, sum_below_same f g n e)

-- the sums of functions that agree below n
pub sum_below_agree : (f g : ℕ → ℕ) (n : ℕ) → ((x : ℕ) → x < n → f x ≡ g x) → sum_below f n ≡ sum_below g n
sum_below_agree f g zero e = refl
sum_below_agree f g (suc n) e = let here : f n ≡ g n = e n (omega arith) in omega (arith, here, sum_below_agree f g n (λ x lt. e x (omega (arith, lt))))

pub sum_below_add : (f g : ℕ → ℕ) (n : ℕ) → sum_below (λ x. f x + g x) n ≡ sum_below f n + sum_below g n
sum_below_add f g zero = refl
sum_below_add f g (suc n) = omega (arith, sum_below_add f g n)

pub sum_below_zero : (f : ℕ → ℕ) (n : ℕ) → ((x : ℕ) → x < n → f x ≡ 0) → sum_below f n ≡ 0
sum_below_zero f zero h = refl
sum_below_zero f (suc n) h = let here : f n ≡ 0 = h n (omega arith) in omega (arith, sum_below_zero f n (λ x lt. h x (omega (arith, lt))))

-- the sum of a value at the single number j
pub sum_below_one : (v j n : ℕ) → j < n → sum_below (λ x. cond (eqb j x) v 0) n ≡ v
sum_below_one v j zero h = omega arith
sum_below_one v j (suc n) h = elim (cases_eq j n) [
  | inl e ↦ (let yes' : eqb j n ≡ true = eq-eqb j n e in
      let none : sum_below (λ x. cond (eqb j x) v 0) n ≡ 0 = sum_below_zero (λ x. cond (eqb j x) v 0) n (λ x lt. let no' : eqb j x ≡ false = ne_eqb j x (λ same. omega arith) in rw no' refl) in
      rw yes' (omega arith))
  | inr e ↦ (let no' : eqb j n ≡ false = ne_eqb j n e in rw no' (omega (arith, sum_below_one v j n (omega arith))))
]

pub sum_below_le : (f : ℕ → ℕ) (m n : ℕ) → ((k : ℕ) → f k ≤ m) → sum_below f n ≤ n * m
sum_below_le f m zero h = omega arith
sum_below_le f m (suc n) h = let here : f n ≤ m = h n in omega (arith, sum_below_le f m n h)

pub count_below_le : (p : ℕ → Bool) (n : ℕ) → count_below p n ≤ n
count_below_le p zero = omega arith
count_below_le p (suc n) = omega (arith, count_below_le p n, by (p n))
  where
    by : (b : Bool) → cond b 1 0 ≤ 1
    by true = omega arith
    by false = omega arith

pub length_is : {X : Type 0} (xs : List X) → length xs ≡ sum_by (λ _. 1) xs
length_is [] = refl
length_is (x ∷ xs) = omega (arith, length_is xs, sum_by-cons (λ _. 1) x xs)

pub count_by-cons : {X : Type 0} (p : X → Bool) (x : X) (xs : List X) → count_by p (x ∷ xs) ≡ cond (p x) 1 0 + count_by p xs
count_by-cons p x xs = sum_by-cons (λ y. cond (p y) 1 0) x xs

pub sum_by-agree : {X : Type 0} (f g : X → ℕ) → ((x : X) → f x ≡ g x) → (xs : List X) → sum_by f xs ≡ sum_by g xs
sum_by-agree f g e [] = refl
sum_by-agree f g e (x ∷ xs) = sum_by-cons f x xs ∙ ap₂ (λ a b. a + b) (e x) (sum_by-agree f g e xs) ∙ sym (sum_by-cons g x xs)

-- two sums over the same elements, joined
pub sum_by-join : {X : Type 0} (f g h : X → ℕ) → ((x : X) → f x + g x ≡ h x) → (xs : List X) → sum_by f xs + sum_by g xs ≡ sum_by h xs
sum_by-join f g h e [] = refl
sum_by-join f g h e (x ∷ xs) = omega (arith, e x, sum_by-join f g h e xs, sum_by-cons f x xs, sum_by-cons g x xs, sum_by-cons h x xs)

pub sum_by-zero : {X : Type 0} (f : X → ℕ) → ((x : X) → f x ≡ 0) → (xs : List X) → sum_by f xs ≡ 0
sum_by-zero f e [] = refl
sum_by-zero f e (x ∷ xs) = omega (arith, e x, sum_by-zero f e xs, sum_by-cons f x xs)

pub sum_by-few : {X : Type 0} (f : X → ℕ) (m : ℕ) → ((x : X) → f x ≤ m) → (xs : List X) → sum_by f xs ≤ length xs * m
sum_by-few f m e [] = omega arith
sum_by-few f m e (x ∷ xs) = omega (arith, e x, sum_by-few f m e xs, sum_by-cons f x xs)
