-- Tables of marks.
use Rattle.std.proofs.Common.{◌≡◌, ℕ, zero, suc, ◌+◌, ◌*◌, ◌<◌, ◌≤◌, List, [], ◌∷◌, ◌++◌, length, get_or, Bool, true, false, not, cond, ◌==◌, ◌&&◌, ◌||◌, take, take_all, refl, sym, ap, ◌∙◌, arith, nat_lt}
use Rattle.std.specs.List.{list_any, AllByRecursion as Each}
use Rattle.std.proofs.lemmas.List.{take-append-le}
use Rattle.std.proofs.Math.Nat.{le_refl}
use Rattle.std.proofs.lemmas.Nat.{row_fits}
use Rattle.std.proofs.lemmas.Bool.{eqb-true, eqb-false}
use Rattle.std.proofs.lemmas.Bool.Decides.{nat_tests}
use Rattle.ctt_problem.specs.Lists.{has}
use Rattle.ctt_problem.specs.BitRows.{BitTable, is_marked_in, AddsMarks, SetsMark}

-- by cases of a boolean
pub bool_case : (C : Type 0) (b : Bool) → (b ≡ true → C) → (b ≡ false → C) → C
bool_case C true so otherwise = so refl
bool_case C false so otherwise = otherwise refl

or_false : (b : Bool) → (b || false) ≡ b
or_false true = refl
or_false false = refl

or_or : (a b c : Bool) → ((a || b) || c) ≡ (a || (b || c))
or_or true b c = refl
or_or false b c = refl

-- more marks, in addition to those added before
pub more_added : (s t u : BitTable) (test more other : ℕ → ℕ → Bool) → AddsMarks s t test → AddsMarks t u more → ((r n : ℕ) → other r n ≡ (test r n || more r n)) → AddsMarks s u other
more_added s t u test more other h k alike = record {
  size = (k.size.0 ∙ h.size.0, k.size.1 ∙ h.size.1);
  marks = λ r n. k.marks r n ∙ ap (λ b. b || more r n) (h.marks r n) ∙ or_or (is_marked_in s r n) (test r n) (more r n) ∙ ap (λ b. is_marked_in s r n || b) (sym (alike r n));
}

-- after the diagonal is cleared in the rows below a row, it is cleared in that row
pub own_more : (s t new : BitTable) (row : ℕ) → ((r n : ℕ) → is_marked_in t r n ≡ (not (nat_lt r row && r == n) && is_marked_in s r n)) → SetsMark t new row row false
    → (r n : ℕ) → is_marked_in new r n ≡ (not (nat_lt r (row + 1) && r == n) && is_marked_in s r n)
own_more s t new row before set r n = set.marks r n ∙ ap (λ b. cond (r == row && n == row) false b) (before r n) ∙ bool_case _ (r == row)
    (λ is. rw is (here (eqb-true r row is) (is_marked_in s r n)))
    (λ isnt. rw isnt (there isnt (is_marked_in s r n)))
  where
    here : r ≡ row → (b : Bool) → cond (n == row) false (not (nat_lt r row && r == n) && b) ≡ (not (nat_lt r (row + 1) && r == n) && b)
    here e b = bool_case _ (n == row)
        (λ is. let own : (nat_lt r (row + 1) && r == n) ≡ true = grind (arith, nat_tests, e, eqb-true n row is) in rw (is, own) refl)
        (λ isnt. let other : (r == n) ≡ false = grind (arith, nat_tests, e, eqb-false n row isnt) in rw (isnt, other) (both (nat_lt r row) (nat_lt r (row + 1)) b))
      where
        both : (x y b : Bool) → (not (x && false) && b) ≡ (not (y && false) && b)
        both true true b = refl
        both true false b = refl
        both false true b = refl
        both false false b = refl

    there : (r == row) ≡ false → (b : Bool) → (not (nat_lt r row && r == n) && b) ≡ (not (nat_lt r (row + 1) && r == n) && b)
    there isnt b = (let same : nat_lt r row ≡ nat_lt r (row + 1) = grind (arith, nat_tests, eqb-false r row isnt) in ap (λ x. not (x && r == n) && b) same)

-- a course that is not a member
pub no_member : (n d : ℕ) → n ≤ d → (ms : List ℕ) → Each (λ m. m < n) ms → has d ms ≡ false
no_member n d le [] each = refl
no_member n d le (m ∷ ms) each = ap (λ b. b || has d ms) (other m d n each.0 le) ∙ no_member n d le ms each.1
  where
    other : (a b k : ℕ) → a < k → k ≤ b → (a == b) ≡ false
    other a b k lt le = grind (arith, nat_tests)

pub no_mates : {X : Type 0} (members : X → List ℕ) (n c d : ℕ) → n ≤ d → (qs : List X) → Each (λ q. Each (λ m. m < n) (members q)) qs → list_any (λ q. has c (members q) && has d (members q)) qs ≡ false
no_mates members n c d le [] each = refl
no_mates members n c d le (q ∷ qs) each = rw (no_member n d le (members q) each.0, no_mates members n c d le qs each.1) (none (has c (members q)))
  where
    none : (b : Bool) → ((b && false) || false) ≡ false
    none true = refl
    none false = refl

-- what was written over a whole list
pub written : {X : Type 0} (n : ℕ) (xs ys : List X) → length xs ≡ n → take n (xs ++ ys) ≡ xs
written n xs ys h = take-append-le n xs ys (omega (arith, h)) ∙ take_all n xs (omega (arith, h))

-- an element within the list, with any default
pub same_element : {X : Type 0} (xs : List X) (i : ℕ) (d e : X) → i < length xs → get_or xs i d ≡ get_or xs i e
same_element [] i d e lt = absurd (omega (arith, lt))
same_element (x ∷ xs) zero d e lt = refl
same_element (x ∷ xs) (suc i) d e lt = same_element xs i d e (omega (arith, lt))

-- an index of a table is in it
pub place_within : (r c w n : ℕ) → r < n → c < w → r * w + c < n * w
place_within r c w n row column = omega (arith, row_fits r w n w row (le_refl w))
