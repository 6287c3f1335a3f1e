-- The first marked number that passes a test, found from one marked number to the next.
use Rattle.std.proofs.Common.{◌≡◌, ℕ, zero, suc, ◌+◌, ◌<◌, ◌≤◌, Bool, true, false, cond, ◌&&◌, List, [], ◌∷◌, ◌++◌, map, Option, Some, None, refl, add-one, append-nil, ◌∙◌, sym, ap, subst, arith, inl, inr}
use Rattle.std.specs.Prelude.{nat_le, nat_lt}
use Rattle.std.specs.List.{find}
use Rattle.std.specs.Option.{option_map}
use Rattle.std.proofs.lemmas.Bool.{cases_Bool, cases_eq, and_parts, leb-true, le-leb, ltb-true, lt-ltb}
use Rattle.ctt_problem.specs.Lists.{below}
use Rattle.ctt_problem.specs.Marks.{IsLeast}
use Rattle.ctt_edits.specs.RowSets.{between}

find_left : {X : Type 0} (p : X → Bool) (xs ys : List X) (x : X) → find p xs ≡ Some x → find p (xs ++ ys) ≡ Some x
find_left p [] ys x e = cc
find_left p (y ∷ xs) ys x e = elim (cases_Bool (p y)) [
  | inl b ↦ (let e' : Some y ≡ Some x = rw b at e in rw b e')
  | inr b ↦ (let e' : find p xs ≡ Some x = rw b at e in rw b (find_left p xs ys x e'))
]

find_right : {X : Type 0} (p : X → Bool) (xs ys : List X) → find p xs ≡ None → find p (xs ++ ys) ≡ find p ys
find_right p [] ys e = refl
find_right p (y ∷ xs) ys e = elim (cases_Bool (p y)) [
  | inl b ↦ (let e' : Some y ≡ None = rw b at e in cc)
  | inr b ↦ (let e' : find p xs ≡ None = rw b at e in rw b (find_right p xs ys e'))
]

find_mapped : {X Y : Type 0} (p : Y → Bool) (f : X → Y) (xs : List X) → find p (map f xs) ≡ option_map f (find (λ x. p (f x)) xs)
find_mapped p f [] = refl
find_mapped p f (x ∷ xs) = elim (cases_Bool (p (f x))) [ inl b ↦ rw b refl | inr b ↦ rw b (find_mapped p f xs) ]

-- a number is skipped if it is not marked, or does not pass the test
pub first_skipped : (d m : ℕ → Bool) (n : ℕ) → m n ≡ false → find d (below m n) ≡ None → find d (below m (n + 1)) ≡ None
first_skipped d m n e none = rw (add-one, e, append-nil) none

pub first_same : (d m : ℕ → Bool) (n : ℕ) → d n ≡ false → find d (below m n) ≡ None → find d (below m (n + 1)) ≡ None
first_same d m n e none = elim (cases_Bool (m n)) [
  | inl y ↦ rw (add-one, y) (find_right d (below m n) (n ∷ []) none ∙ (rw e refl))
  | inr skip ↦ first_skipped d m n skip none
]

-- a marked number that passes is found if there is no earlier one
pub first_found : (d m : ℕ → Bool) (n k : ℕ) → m n ≡ true → d n ≡ true → find d (below m n) ≡ None → n < k → find d (below m k) ≡ Some n
first_found d m n zero e y none lt = absurd (omega arith)
first_found d m n (suc k) e y none lt = elim (cases_eq n k) [
  | inl same ↦ (rw (← same, e) (find_right d (below m n) (n ∷ []) none ∙ (rw y refl)))
  | inr other ↦ find_left d (below m k) (cond (m k) (k ∷ []) []) n (first_found d m n k e y none (omega (arith, lt, other)))
]

-- the first row found among those of the courses, followed by those of the slots
pub row_found : {X : Type 0} (d : X → Bool) (f g : ℕ → X) (xs ys : List ℕ) (n : ℕ) → Some n ≡ find (λ x. d (f x)) xs → Some (f n) ≡ find d (map f xs ++ map g ys)
row_found d f g xs ys n e = sym (find_left d (map f xs) (map g ys) (f n) (find_mapped d f xs ∙ ap (option_map f) (sym e)))

pub row_behind : {X : Type 0} (d : X → Bool) (f g : ℕ → X) (xs ys : List ℕ) (o : Option ℕ) → None ≡ find (λ x. d (f x)) xs → o ≡ find (λ y. d (g y)) ys → option_map g o ≡ find d (map f xs ++ map g ys)
row_behind d f g xs ys o e k = ap (option_map g) k ∙ sym (find_mapped d g ys) ∙ sym (find_right d (map f xs) (map g ys) (find_mapped d f xs ∙ ap (option_map f) (sym e)))

-- the next marked number is marked, and within its range
pub next_is : (m : ℕ → Bool) (from k n : ℕ) → between from k m n ≡ true → (from ≤ n) × (n < k) × (m n ≡ true)
next_is m from k n h =
    let parts = and_parts (nat_le from n && nat_lt n k) (m n) h in
    let ends = and_parts (nat_le from n) (nat_lt n k) parts.0 in
    (leb-true from n ends.0, ltb-true n k ends.1, parts.1)

skipped : (m : ℕ → Bool) (from k n : ℕ) → between from k m n ≡ false → from ≤ n → n < k → m n ≡ false
skipped m from k n h le lt =
    let same : between from k m n ≡ m n = rw (le-leb from n le, lt-ltb n k lt) refl in
    sym same ∙ h

-- nothing is found before the next marked number
pub none_before : (d m : ℕ → Bool) (from n k : ℕ) → find d (below m from) ≡ None → ((x : ℕ) → x < n → between from k m x ≡ false) → from ≤ n → n ≤ k → find d (below m n) ≡ None
none_before d m from zero k none gap le lt = refl
none_before d m from (suc n) k none gap le lt = elim (cases_eq from (suc n)) [
  | inl same ↦ subst (λ x. find d (below m x) ≡ None) same none
  | inr other ↦ (
      let up : from ≤ n = omega (arith, le, other) in
      let skip : m n ≡ false = skipped m from k n (gap n (omega arith)) up (omega (arith, lt)) in
      rw (skip, append-nil) (none_before d m from n k none (λ x h. gap x (omega (arith, h))) up (omega (arith, lt))))
]

-- the next marked number passes
pub found_next : (d m : ℕ → Bool) (from k v : ℕ) (next : Option ℕ) → IsLeast (between from k m) next → next ≡ Some v → find d (below m from) ≡ None → from ≤ k → d v ≡ true → Some v ≡ find d (below m k)
found_next d m from k v next least some none within y =
    let l : IsLeast (between from k m) (Some v) = subst (IsLeast (between from k m)) some least in
    let is = next_is m from k v l.0 in
    let before : find d (below m v) ≡ None = none_before d m from v k none l.1 is.0 (omega (arith, is.1)) in
    sym (first_found d m v k is.2 y before is.1)

-- the next marked number does not pass, and the search goes on after it
pub past_next : (d m : ℕ → Bool) (from k v : ℕ) (next : Option ℕ) → IsLeast (between from k m) next → next ≡ Some v → find d (below m from) ≡ None → from ≤ k → d v ≡ false → find d (below m (v + 1)) ≡ None
past_next d m from k v next least some none within fails =
    let l : IsLeast (between from k m) (Some v) = subst (IsLeast (between from k m)) some least in
    let is = next_is m from k v l.0 in
    first_same d m v fails (none_before d m from v k none l.1 is.0 (omega (arith, is.1)))

pub next_within : (m : ℕ → Bool) (from k v : ℕ) (next : Option ℕ) → IsLeast (between from k m) next → next ≡ Some v → (from ≤ v) × (v < k)
next_within m from k v next least some =
    let l : IsLeast (between from k m) (Some v) = subst (IsLeast (between from k m)) some least in
    let is = next_is m from k v l.0 in
    (is.0, is.1)

-- there is no next marked number
pub found_none : (d m : ℕ → Bool) (from k : ℕ) (next : Option ℕ) → IsLeast (between from k m) next → next ≡ None → find d (below m from) ≡ None → from ≤ k → None ≡ find d (below m k)
found_none d m from k next least nothing none within =
    let l : IsLeast (between from k m) None = subst (IsLeast (between from k m)) nothing least in
    sym (none_before d m from k k none (λ x h. l x) within (omega arith))
