-- The order of offers, and the best of a list found one by one.
use Rattle.std.proofs.Common.{◌≡◌, ℤ, ℕ, Bool, true, false, cond, not, ◌||◌, nat_lt, List, [], ◌∷◌, Some, refl, ◌∙◌, sym, ap, arith, inl, inr}
use Rattle.std.specs.Int.Signed.{lt_z}
use Rattle.std.specs.List.{list_any, find, fold}
use Rattle.std.specs.Option.{unwrap_or}
use Rattle.std.proofs.lemmas.Bool.{cases_Bool}
use Rattle.std.proofs.lemmas.Bool.Decides.{nat_tests}
use Rattle.std.proofs.lemmas.Int.{ints}
use Rattle.ctt_edits.specs.Offers.{fault_rank, is_better, best}
use Rattle.ctt_edits.specs.declared.offer.Offer.{Offer}
use Rattle.ctt_edits.specs.declared.offer.Offer.TheVariants.{Priced, Refused, Nothing}

-- of two prices, and of two ranks
lower_not : (a : ℤ) → lt_z a a ≡ false
lower_not a = grind (arith, ints)

lower_still : (a b c : ℤ) → lt_z a b ≡ true → lt_z b c ≡ true → lt_z a c ≡ true
lower_still a b c h k = grind (arith, ints)

lower_than : (a b c : ℤ) → lt_z a b ≡ true → lt_z c b ≡ false → lt_z a c ≡ true
lower_than a b c h k = grind (arith, ints)

higher_than : (a b c : ℤ) → lt_z a b ≡ true → lt_z a c ≡ false → lt_z c b ≡ true
higher_than a b c h k = grind (arith, ints)

before_not : (a : ℕ) → nat_lt a a ≡ false
before_not a = grind (arith, nat_tests)

before_still : (a b c : ℕ) → nat_lt b a ≡ true → nat_lt c b ≡ true → nat_lt c a ≡ true
before_still a b c h k = grind (arith, nat_tests)

before_than : (a b c : ℕ) → nat_lt b a ≡ true → nat_lt b c ≡ false → nat_lt c a ≡ true
before_than a b c h k = grind (arith, nat_tests)

after_than : (a b c : ℕ) → nat_lt b a ≡ true → nat_lt c a ≡ false → nat_lt b c ≡ true
after_than a b c h k = grind (arith, nat_tests)

-- no offer is better than itself
pub not_itself : (x : Offer) → is_better x x ≡ false
not_itself (Priced a) = lower_not a.price
not_itself (Refused f) = before_not (fault_rank f)
not_itself Nothing = refl

-- what is better than a better one
still : (x y z : Offer) → is_better x y ≡ true → is_better y z ≡ true → is_better x z ≡ true
still (Priced a) (Priced b) (Priced d) h k = lower_still a.price b.price d.price h k
still (Priced a) (Refused f) (Priced d) h k = cc
still (Priced a) Nothing (Priced d) h k = cc
still (Priced a) y (Refused g) h k = refl
still (Priced a) y Nothing h k = refl
still (Refused f) (Priced b) z h k = cc
still (Refused f) (Refused g) (Priced d) h k = cc
still (Refused f) (Refused g) (Refused e) h k = before_still (fault_rank f) (fault_rank g) (fault_rank e) h k
still (Refused f) (Refused g) Nothing h k = refl
still (Refused f) Nothing z h k = cc
still Nothing y z h k = cc

-- what is better than y is better than what is not better than y
better_than : (x y z : Offer) → is_better x y ≡ true → is_better z y ≡ false → is_better x z ≡ true
better_than (Priced a) (Priced b) (Priced d) h k = lower_than a.price b.price d.price h k
better_than (Priced a) (Refused f) (Priced d) h k = cc
better_than (Priced a) Nothing (Priced d) h k = cc
better_than (Priced a) y (Refused g) h k = refl
better_than (Priced a) y Nothing h k = refl
better_than (Refused f) (Priced b) z h k = cc
better_than (Refused f) (Refused g) (Priced d) h k = cc
better_than (Refused f) (Refused g) (Refused e) h k = before_than (fault_rank f) (fault_rank g) (fault_rank e) h k
better_than (Refused f) (Refused g) Nothing h k = refl
better_than (Refused f) Nothing (Priced d) h k = cc
better_than (Refused f) Nothing (Refused e) h k = cc
better_than (Refused f) Nothing Nothing h k = refl
better_than Nothing y z h k = cc

-- than which x is better, z is, if x is not better than z
worse_than : (x y z : Offer) → is_better x y ≡ true → is_better x z ≡ false → is_better z y ≡ true
worse_than (Priced a) (Priced b) (Priced d) h k = higher_than a.price b.price d.price h k
worse_than (Priced a) (Refused f) (Priced d) h k = refl
worse_than (Priced a) Nothing (Priced d) h k = refl
worse_than (Priced a) y (Refused g) h k = cc
worse_than (Priced a) y Nothing h k = cc
worse_than (Refused f) (Priced b) z h k = cc
worse_than (Refused f) (Refused g) (Priced d) h k = refl
worse_than (Refused f) (Refused g) (Refused e) h k = after_than (fault_rank f) (fault_rank g) (fault_rank e) h k
worse_than (Refused f) (Refused g) Nothing h k = cc
worse_than (Refused f) Nothing (Priced d) h k = refl
worse_than (Refused f) Nothing (Refused e) h k = refl
worse_than (Refused f) Nothing Nothing h k = cc
worse_than Nothing y z h k = cc

-- the better one, and the first if neither is
abbrev pub better : Offer → Offer → Offer
better x y = cond (is_better y x) y x

-- no offer of the list is better
abbrev pub unbeaten : List Offer → Offer → Bool
unbeaten xs x = not (list_any (λ y. is_better y x) xs)

find_same : (p q : Offer → Bool) (xs : List Offer) → ((x : Offer) → p x ≡ q x) → find p xs ≡ find q xs
find_same p q [] h = refl
find_same p q (x ∷ xs) h = rw (h x) (ap (λ o. cond (q x) (Some x) o) (find_same p q xs h))

any_more : (p q : Offer → Bool) (xs : List Offer) → ((x : Offer) → p x ≡ true → q x ≡ true) → list_any p xs ≡ true → list_any q xs ≡ true
any_more p q [] h k = k
any_more p q (x ∷ xs) h k = elim (cases_Bool (p x)) [
  | inl b ↦ rw (h x b) refl
  | inr b ↦ (let rest : list_any p xs ≡ true = rw b at k in rw (any_more p q xs h rest) (or_true (q x)))
]
  where
    or_true : (b : Bool) → (b || true) ≡ true
    or_true true = refl
    or_true false = refl

first_absorbed : (a b d : Bool) → (a ≡ true → b ≡ true) → (a || (b || d)) ≡ (b || d)
first_absorbed true b d h = rw (h refl) refl
first_absorbed false b d h = refl

second_absorbed : (a b d : Bool) → (b ≡ true → a ≡ true) → (a || (b || d)) ≡ (a || d)
second_absorbed true b d h = refl
second_absorbed false true d h = (let absurd_one : false ≡ true = h refl in cc)
second_absorbed false false d h = refl

last_of : (a b : Bool) → not (a || (b || true)) ≡ false
last_of true b = refl
last_of false true = refl
last_of false false = refl

module _ (b x : Offer) (xs : List Offer) where
  -- the second offer is better, so the first does not matter
  second_better : is_better x b ≡ true → best (b ∷ x ∷ xs) ≡ best (x ∷ xs)
  second_better y = rw (not_itself b, y) (ap (λ o. unwrap_or o Nothing) (find_same (unbeaten (b ∷ x ∷ xs)) (unbeaten (x ∷ xs)) (x ∷ xs) same))
    where
      same : (z : Offer) → unbeaten (b ∷ x ∷ xs) z ≡ unbeaten (x ∷ xs) z
      same z = ap not (first_absorbed (is_better b z) (is_better x z) (list_any (λ w. is_better w z) xs) (still x b z y))

  -- it is not, so it does not matter itself
  second_worse : is_better x b ≡ false → best (b ∷ x ∷ xs) ≡ best (b ∷ xs)
  second_worse n = elim (cases_Bool (list_any (λ w. is_better w b) xs)) [
    | inl y ↦ (
        let beaten : list_any (λ w. is_better w x) xs ≡ true = any_more (λ w. is_better w b) (λ w. is_better w x) xs (λ w h. better_than w b x h n) y in
        let skipped : find (unbeaten (b ∷ x ∷ xs)) (x ∷ xs) ≡ find (unbeaten (b ∷ x ∷ xs)) xs = rw beaten (ap (λ c. cond c (Some x) (find (unbeaten (b ∷ x ∷ xs)) xs)) (last_of (is_better b x) (is_better x x))) in
        rw (not_itself b, n, y) (ap (λ o. unwrap_or o Nothing) (skipped ∙ find_same (unbeaten (b ∷ x ∷ xs)) (unbeaten (b ∷ xs)) xs same)))
    | inr m ↦ rw (not_itself b, n, m) refl
  ]
    where
      same : (z : Offer) → unbeaten (b ∷ x ∷ xs) z ≡ unbeaten (b ∷ xs) z
      same z = ap not (second_absorbed (is_better b z) (is_better x z) (list_any (λ w. is_better w z) xs) (λ h. worse_than x z b h n))

  step : best (b ∷ x ∷ xs) ≡ best (better b x ∷ xs)
  step = elim (cases_Bool (is_better x b)) [
    | inl y ↦ second_better y ∙ ap (λ c. best (cond c x b ∷ xs)) (sym y)
    | inr n ↦ second_worse n ∙ ap (λ c. best (cond c x b ∷ xs)) (sym n)
  ]

-- where there is nothing else, the best is nothing
all_nothing : (q : Offer → Bool) (xs : List Offer) → list_any (λ y. is_better y Nothing) xs ≡ false → unwrap_or (find q xs) Nothing ≡ Nothing
all_nothing q [] h = refl
all_nothing q (Priced e ∷ xs) h = cc
all_nothing q (Refused f ∷ xs) h = cc
all_nothing q (Nothing ∷ xs) h = elim (cases_Bool (q Nothing)) [ inl b ↦ rw b refl | inr b ↦ rw b (all_nothing q xs h) ]

from_nothing : (xs : List Offer) → best (Nothing ∷ xs) ≡ best xs
from_nothing xs = elim (cases_Bool (list_any (λ y. is_better y Nothing) xs)) [
  | inl b ↦ rw b refl
  | inr b ↦ ap (λ c. unwrap_or (cond (not c) (Some Nothing) (find (unbeaten (Nothing ∷ xs)) xs)) Nothing) b ∙ sym (all_nothing (unbeaten xs) xs b)
]

-- the best of a list, one by one
pub best_from : (b : Offer) (xs : List Offer) → fold better b xs ≡ best (b ∷ xs)
best_from b [] = rw (not_itself b) refl
best_from b (x ∷ xs) = best_from (better b x) xs ∙ sym (step b x xs)

pub best_is : (xs : List Offer) → fold better Nothing xs ≡ best xs
best_is xs = best_from Nothing xs ∙ from_nothing xs
