-- Marks on numbers, by the words that hold them.
use Rattle.std.proofs.Common.{◌≡◌, ℕ, zero, suc, ◌+◌, ◌-◌, ◌*◌, ◌/◌, ◌%◌, ◌^◌, ◌<◌, ◌≤◌, ◌≢◌, List, length, get_or, Bool, true, false, not, cond, ◌==◌, ◌&&◌, ◌||◌, nat_le, nat_lt, Option, Some, None, [], ◌∷◌, ◌++◌, drop, refl, sym, ap, ap₂, ◌∙◌, arith, true≢false, w64, add-zero, zero-add, one-add, add-suc, add_assoc}
use Rattle.std.specs.Prelude.{replicate, slice_set, bit_and, bit_or, IfSome}
use Rattle.std.specs.Bool.{then_some}
use Rattle.std.specs.Int.{bit_at, bit_not, trailing_zeros}
use Rattle.std.specs.Int.Count.{ones, ones_step}
use Rattle.std.proofs.lemmas.List.{get_or-set_other, get_or_past, length-set, length-replicate}
use Rattle.std.proofs.lemmas.Grind.{get_or-set_at}
use Rattle.std.proofs.lemmas.Bool.{eqb-true, eqb-false, and_parts}
use Rattle.std.proofs.lemmas.Bool.Decides.{nat_tests, Decides-ltb}
use Rattle.std.proofs.lemmas.Nat.{div-add-mod', div_below, mod_below, pow_below, pow_pos, div-mul-add, mod-mul-add}
use Rattle.std.proofs.Math.Nat.{mod-eq_of_lt, one-mul, zero-mul, pow-suc}
use Rattle.std.proofs.lemmas.Nat.Bits.{bit_at-zero, bit_at-lt, bit_at-suc, bit_at_lowest, bit_at_and, bit_at_or, bit_at_set_same, bit_at_set_other, bit_at_clear_same, bit_at_clear_other, shr_and_one, and_pow, bit_at-trailing_zeros, bit_at_mask_inside, bit_at_mask_below, ones_shl, bit_at_ones, bit_at_ones_above}
use Rattle.ctt_problem.specs.Marks.{is_marked, AreMarks, count_marked, IsLeast}
use Rattle.ctt_problem.specs.Lists.{count_below}
use Rattle.ctt_problem.proofs.TableLemmas.{bool_case}

-- a list of one element over and over
pub all_alike : {X : Type 0} (x : X) (k n : ℕ) → get_or (replicate k x) n x ≡ x
all_alike x zero n = refl
all_alike x (suc k) zero = refl
all_alike x (suc k) (suc n) = all_alike x k n

-- words of zeros
pub none_marked : (k n : ℕ) → is_marked (replicate k 0) n ≡ false
unfolding is_marked
none_marked k n = rw (all_alike zero k (n / 64), bit_at-zero (n % 64)) refl

-- words of zeros after others add no marks
left_alike : {X : Type 0} (x : X) (m k n : ℕ) → get_or (drop m (replicate k x)) n x ≡ x
left_alike x zero k n = all_alike x k n
left_alike x (suc m) zero n = refl
left_alike x (suc m) (suc k) n = left_alike x m k n

filled_up : (words zeros : List ℕ) → ((i : ℕ) → get_or zeros i 0 ≡ 0) → (i : ℕ) → get_or (words ++ zeros) i 0 ≡ get_or words i 0
filled_up [] zeros none i = none i
filled_up (w ∷ words) zeros none zero = refl
filled_up (w ∷ words) zeros none (suc i) = filled_up words zeros none i

pub same_marks : (words : List ℕ) (m k n : ℕ) → is_marked (words ++ drop m (replicate k 0)) n ≡ is_marked words n
unfolding is_marked
same_marks words m k n = ap (λ w. bit_at w (n % 64) == 1) (filled_up words (drop m (replicate k 0)) (left_alike 0 m k) (n / 64))

pub filled_up_are : (words : List ℕ) → length words ≤ 32 → ((n : ℕ) → 2000 ≤ n → is_marked words n ≡ false) → AreMarks (words ++ drop (length words) (replicate 32 0))
filled_up_are words few within = record {
  size = filled_length words 32 few;
  within = λ n large. same_marks words (length words) 32 n ∙ within n large;
}
  where
    filled_length : (words : List ℕ) (k : ℕ) → length words ≤ k → length (words ++ drop (length words) (replicate k 0)) ≡ k
    filled_length [] k h = length-replicate k 0
    filled_length (w ∷ words) zero h = absurd (omega (arith, h))
    filled_length (w ∷ words) (suc k) h = ap suc (filled_length words k (omega (arith, h)))

-- no number past the words is marked
pub past_words : (words : List ℕ) (n : ℕ) → length words ≤ n / 64 → is_marked words n ≡ false
unfolding is_marked
past_words words n past = rw (get_or_past words (n / 64) 0 past, bit_at-zero (n % 64)) refl

not_below : (n m : ℕ) → nat_lt n m ≡ false → m ≤ n
not_below n m h = grind (arith, nat_tests)

-- two numbers are equal if their words and their bits are
pub same_number : (m n : ℕ) → n / 64 ≡ m / 64 → n % 64 ≡ m % 64 → n ≡ m
same_number m n word bit = sym (div-add-mod' n 64) ∙ rw (word, bit) (div-add-mod' m 64)

-- one word, changed in the bit of one number
pub one_changed : (words : List ℕ) (m w : ℕ) (value : Bool) → m / 64 < length words → (bit_at w (m % 64) == 1) ≡ value
    → ((k : ℕ) → k < 64 → k ≢ m % 64 → bit_at w k ≡ bit_at (get_or words (m / 64) 0) k)
    → (n : ℕ) → is_marked (slice_set words (m / 64) w) n ≡ cond (n == m) value (is_marked words n)
unfolding is_marked
one_changed words m w value within here there n = bool_case _ (n == m)
    (λ is.
    let e : n ≡ m = eqb-true n m is in
    let word : get_or (slice_set words (m / 64) w) (n / 64) 0 ≡ w = get_or-set_at words (m / 64) (n / 64) w 0 (ap (λ k. k / 64) e) within in
    rw is (ap₂ (λ v k. bit_at v k == 1) word (ap (λ k. k % 64) e) ∙ here))
    (λ isnt. rw isnt (bool_case _ (n / 64 == m / 64)
    (λ is.
    let e : n / 64 ≡ m / 64 = eqb-true (n / 64) (m / 64) is in
    let word : get_or (slice_set words (m / 64) w) (n / 64) 0 ≡ w = get_or-set_at words (m / 64) (n / 64) w 0 e within in
    let other : n % 64 ≢ m % 64 = λ same. eqb-false n m isnt (same_number m n e same) in
    let bit : bit_at w (n % 64) ≡ bit_at (get_or words (m / 64) 0) (n % 64) = there (n % 64) (omega arith) other in
    ap (λ v. bit_at v (n % 64) == 1) word ∙ ap (λ b. b == 1) bit ∙ ap (λ k. bit_at (get_or words k 0) (n % 64) == 1) (sym e))
    (λ differ.
    let word : get_or (slice_set words (m / 64) w) (n / 64) 0 ≡ get_or words (n / 64) 0 = get_or-set_other words (m / 64) (n / 64) w 0 (eqb-false (n / 64) (m / 64) differ) in
    ap (λ v. bit_at v (n % 64) == 1) word)))

-- a bit is 0 or 1
bit_case : (C : Type 0) (n k : ℕ) → (bit_at n k ≡ 0 → C) → (bit_at n k ≡ 1 → C) → C
bit_case C n k none one = bool_case C (bit_at n k == 0) (λ is. none (eqb-true (bit_at n k) 0 is)) (λ isnt. one (known (eqb-false (bit_at n k) 0 isnt)))
  where
    known : bit_at n k ≢ 0 → bit_at n k ≡ 1
    known h = omega (arith, bit_at-lt n k, h)

one_shl : (k : ℕ) → k < 64 → 1 * 2 ^ k % 2 ^ 64 ≡ 2 ^ k
one_shl k lt = let below : 2 ^ k < 2 ^ 64 = pow_below k 64 lt in ap (λ n. n % 2 ^ 64) (one-mul (2 ^ k)) ∙ mod-eq_of_lt below

-- the test of one bit
pub is_bit : (w k : ℕ) → (bit_and (w / 2 ^ k) 1 == 1) ≡ (bit_at w k == 1)
is_bit w k = ap (λ n. n == 1) (shr_and_one w k)

pub is_no_bit : (w k : ℕ) → k < 64 → (bit_and w (1 * 2 ^ k % 2 ^ 64) == 0) ≡ not (bit_at w k == 1)
is_no_bit w k lt = ap (λ n. bit_and w n == 0) (one_shl k lt) ∙ ap (λ n. n == 0) (and_pow w k) ∙ bit_case _ w k
    (λ none. rw none (ap (λ n. n == 0) (zero-mul (2 ^ k))))
    (λ one. rw one (ap (λ n. n == 0) (one-mul (2 ^ k)) ∙ positive (2 ^ k) (pow_pos k)))
  where
    positive : (n : ℕ) → 0 < n → (n == 0) ≡ false
    positive n h = grind (arith, nat_tests)

pub read_mark : (words : List ℕ) (n : ℕ) → (bit_and (get_or words (n / 64) 0 / 2 ^ (n % 64)) 1 == 1) ≡ is_marked words n
unfolding is_marked
read_mark words n = is_bit (get_or words (n / 64) 0) (n % 64)

if_true : (b c : Bool) → cond b true c ≡ (b || c)
if_true true c = refl
if_true false c = refl

if_false : (b c : Bool) → cond b false c ≡ (not b && c)
if_false true c = refl
if_false false c = refl

-- one number, marked or unmarked
module _ (words : List ℕ) (m : ℕ) (size : length words ≡ 32) (small : m < 2000) where
  inside : m / 64 < length words
  inside = rw size (div_below m 64 32 (omega arith) (omega arith))

  low : m % 64 < 64
  low = mod_below m 64 (omega arith)

  pub no_mark : (bit_and (get_or words (m / 64) 0) (1 * 2 ^ (m % 64) % 2 ^ 64) == 0) ≡ not (is_marked words m)
  unfolding is_marked
  no_mark = is_no_bit (get_or words (m / 64) 0) (m % 64) low

  pub with_mark : (n : ℕ) → is_marked (slice_set words (m / 64) (bit_or (get_or words (m / 64) 0) (1 * 2 ^ (m % 64) % 2 ^ 64))) n ≡ (n == m || is_marked words n)
  with_mark n =
      let w = get_or words (m / 64) 0 in
      one_changed words m (bit_or w (1 * 2 ^ (m % 64) % 2 ^ 64)) true inside
      (ap (λ b. b == 1) (bit_at_set_same w64 w (m % 64) low))
      (λ k lt other. bit_at_set_other w64 w (m % 64) low k other) n
      ∙ if_true (n == m) (is_marked words n)

  pub without_mark : (n : ℕ) → is_marked (slice_set words (m / 64) (bit_and (get_or words (m / 64) 0) (bit_not w64 (1 * 2 ^ (m % 64) % 2 ^ 64)))) n ≡ (not (n == m) && is_marked words n)
  without_mark n =
      let w = get_or words (m / 64) 0 in
      one_changed words m (bit_and w (bit_not w64 (1 * 2 ^ (m % 64) % 2 ^ 64))) false inside
      (ap (λ b. b == 1) (bit_at_clear_same w64 w (m % 64) low))
      (λ k lt other. bit_at_clear_other w64 w (m % 64) low k lt other) n
      ∙ if_false (n == m) (is_marked words n)

-- words after a change of one word, if only numbers below 2,000 are marked then
pub changed_are : (words : List ℕ) (p w : ℕ) → length words ≡ 32 → ((n : ℕ) → 2000 ≤ n → is_marked (slice_set words p w) n ≡ false) → AreMarks (slice_set words p w)
changed_are words p w size within = record { size = length-set words p w ∙ size; within = within }

pub with_mark_are : (words : List ℕ) (m : ℕ) → AreMarks words → m < 2000 → AreMarks (slice_set words (m / 64) (bit_or (get_or words (m / 64) 0) (1 * 2 ^ (m % 64) % 2 ^ 64)))
with_mark_are words m are small = changed_are words (m / 64) (bit_or (get_or words (m / 64) 0) (1 * 2 ^ (m % 64) % 2 ^ 64)) are.size
    (λ n large. with_mark words m are.size small n ∙ ap₂ (λ a b. a || b) (other n large) (are.within n large))
  where
    other : (n : ℕ) → 2000 ≤ n → (n == m) ≡ false
    other n large = grind (arith, nat_tests)

pub without_mark_are : (words : List ℕ) (m : ℕ) → AreMarks words → m < 2000 → AreMarks (slice_set words (m / 64) (bit_and (get_or words (m / 64) 0) (bit_not w64 (1 * 2 ^ (m % 64) % 2 ^ 64))))
without_mark_are words m are small = changed_are words (m / 64) (bit_and (get_or words (m / 64) 0) (bit_not w64 (1 * 2 ^ (m % 64) % 2 ^ 64))) are.size
    (λ n large. without_mark words m are.size small n ∙ rw (are.within n large) (and_no (not (n == m))))
  where
    and_no : (b : Bool) → (b && false) ≡ false
    and_no true = refl
    and_no false = refl

-- the bits of the union, and those of the intersection, of two words
pub either_bit : (a b k : ℕ) → (bit_at (bit_or a b) k == 1) ≡ (bit_at a k == 1 || bit_at b k == 1)
either_bit a b k = ap (λ n. n == 1) (bit_at_or a b k) ∙ bit_case _ a k
    (λ x. rw x (bit_case _ b k (λ y. rw y refl) (λ y. rw y refl)))
    (λ x. rw x (bit_case _ b k (λ y. rw y refl) (λ y. rw y refl)))

pub both_bits : (a b k : ℕ) → (bit_at (bit_and a b) k == 1) ≡ (bit_at a k == 1 && bit_at b k == 1)
both_bits a b k = ap (λ n. n == 1) (bit_at_and a b k) ∙ bit_case _ a k
    (λ x. rw x (bit_case _ b k (λ y. rw y refl) (λ y. rw y refl)))
    (λ x. rw x (bit_case _ b k (λ y. rw y refl) (λ y. rw y refl)))

-- the marks of the other words are added in the words below p
pub record AddedBelow (old other words : List ℕ) (p : ℕ) : Type 0 where
  pub size : length words ≡ length old
  pub marks : (n : ℕ) → is_marked words n ≡ (is_marked old n || (nat_lt (n / 64) p && is_marked other n))

pub added_more : (old other words : List ℕ) (p : ℕ) → p < length old → AddedBelow old other words p → AddedBelow old other (slice_set words p (bit_or (get_or words p 0) (get_or other p 0))) (p + 1)
unfolding is_marked
added_more old other words p within so_far = record {
  size = length-set words p (bit_or (get_or words p 0) (get_or other p 0)) ∙ so_far.size;
  marks = λ n. bool_case _ (n / 64 == p)
      (λ is.
      let e : n / 64 ≡ p = eqb-true (n / 64) p is in
      let k = n % 64 in
      let word : get_or (slice_set words p (bit_or (get_or words p 0) (get_or other p 0))) (n / 64) 0 ≡ bit_or (get_or words p 0) (get_or other p 0)
      = get_or-set_at words p (n / 64) (bit_or (get_or words p 0) (get_or other p 0)) 0 e (rw so_far.size within) in
      ap (λ w. bit_at w k == 1) word ∙ either_bit (get_or words p 0) (get_or other p 0) k
      ∙ ap (λ q. bit_at (get_or words q 0) k == 1 || bit_at (get_or other q 0) k == 1) (sym e)
      ∙ ap (λ b. b || bit_at (get_or other (n / 64) 0) k == 1) (so_far.marks n)
      ∙ here (n / 64) e (bit_at (get_or old (n / 64) 0) k == 1) (bit_at (get_or other (n / 64) 0) k == 1))
      (λ isnt.
      let k = n % 64 in
      let word : get_or (slice_set words p (bit_or (get_or words p 0) (get_or other p 0))) (n / 64) 0 ≡ get_or words (n / 64) 0
      = get_or-set_other words p (n / 64) (bit_or (get_or words p 0) (get_or other p 0)) 0 (eqb-false (n / 64) p isnt) in
      ap (λ w. bit_at w k == 1) word ∙ so_far.marks n
      ∙ ap (λ b. bit_at (get_or old (n / 64) 0) k == 1 || (b && bit_at (get_or other (n / 64) 0) k == 1)) (there (n / 64) isnt));
}
  where
    here : (q : ℕ) → q ≡ p → (a b : Bool) → ((a || (nat_lt q p && b)) || b) ≡ (a || (nat_lt q (p + 1) && b))
    here q e a b = grind (arith, nat_tests)

    there : (q : ℕ) → (q == p) ≡ false → nat_lt q p ≡ nat_lt q (p + 1)
    there q e = grind (arith, nat_tests)

-- the count of numbers that pass: equal tests have equal counts
pub count_below_same : (test other : ℕ → Bool) (n : ℕ) → ((k : ℕ) → k < n → test k ≡ other k) → count_below test n ≡ count_below other n
count_below_same test other zero same = refl
count_below_same test other (suc n) same = ap₂ (λ c b. c + cond b 1 0) (count_below_same test other n (λ k lt. same k (omega arith))) (same n (omega arith))

-- the count for a + b numbers
pub count_below_add : (test : ℕ → Bool) (a b : ℕ) → count_below test (a + b) ≡ count_below test a + count_below (λ k. test (a + k)) b
count_below_add test a zero = rw (add-zero a, add-zero (count_below test a)) refl
count_below_add test a (suc b) = ap (count_below test) (add-suc a b) ∙ ap (λ c. c + cond (test (a + b)) 1 0) (count_below_add test a b) ∙ add_assoc (count_below test a) (count_below (λ k. test (a + k)) b) (cond (test (a + b)) 1 0)

-- the count is 0 if no number passes
pub count_below_none : (test : ℕ → Bool) (n : ℕ) → ((k : ℕ) → k < n → test k ≡ false) → count_below test n ≡ 0
count_below_none test zero none = refl
count_below_none test (suc n) none = ap₂ (λ c b. c + cond b 1 0) (count_below_none test n (λ k lt. none k (omega arith))) (none n (omega arith))

count_below_one : (test : ℕ → Bool) → count_below test 1 ≡ cond (test 0) 1 0
count_below_one test = zero-add (cond (test 0) 1 0)

-- the number of set bits of a word is the count of its bits
pub ones_are : (k w : ℕ) → w < 2 ^ k → ones w ≡ count_below (λ i. bit_at w i == 1) k
unfolding ones
ones_are zero w lt = ap ones (zero_is w lt)
  where
    zero_is : (w : ℕ) → w < 2 ^ zero → w ≡ 0
    zero_is w lt = omega arith
ones_are (suc k) w lt =
    ones_step w ∙ ap₂ (λ a b. a + b) (lowest w) (ones_are k (w / 2) (half w k lt))
    ∙ ap₂ (λ a b. a + b) (sym (count_below_one (λ i. bit_at w i == 1))) (count_below_same (λ i. bit_at (w / 2) i == 1) (λ i. bit_at w (1 + i) == 1) k (λ i _. higher i))
    ∙ sym (count_below_add (λ i. bit_at w i == 1) 1 k) ∙ ap (count_below (λ i. bit_at w i == 1)) (one-add k)
  where
    lowest : (w : ℕ) → w % 2 ≡ cond (bit_at w 0 == 1) 1 0
    lowest w = sym (bit_at_lowest w) ∙ bit_case _ w 0 (λ none. rw none refl) (λ one. rw one refl)

    higher : (i : ℕ) → (bit_at (w / 2) i == 1) ≡ (bit_at w (1 + i) == 1)
    higher i = ap (λ n. n == 1) (sym (bit_at-suc w i) ∙ ap (bit_at w) (sym (one-add i)))

    half : (w k : ℕ) → w < 2 ^ suc k → w / 2 < 2 ^ k
    half w k lt = div_below w 2 (2 ^ k) (omega arith) (rw pow-suc at lt)

-- whether a number is marked in both
abbrev pub in_both : List ℕ → List ℕ → ℕ → Bool
in_both a b n = is_marked a n && is_marked b n

pub in_both_words : (a b : List ℕ) (p i : ℕ) → i < 64 → in_both a b (p * 64 + i) ≡ (bit_at (bit_and (get_or a p 0) (get_or b p 0)) i == 1)
unfolding is_marked
in_both_words a b p i lt =
    ap₂ (λ q k. bit_at (get_or a q 0) k == 1 && bit_at (get_or b q 0) k == 1) (div-mul-add p 64 i lt) (mod-mul-add p 64 i lt)
    ∙ sym (both_bits (get_or a p 0) (get_or b p 0) i)

pub marked_in_word : (a : List ℕ) (p i : ℕ) → i < 64 → is_marked a (p * 64 + i) ≡ (bit_at (get_or a p 0) i == 1)
unfolding is_marked
marked_in_word a p i lt = ap₂ (λ q k. bit_at (get_or a q 0) k == 1) (div-mul-add p 64 i lt) (mod-mul-add p 64 i lt)

-- the count so far, plus that of one more word
pub common_more : (a b : List ℕ) (p count k : ℕ) → k ≡ 64 → bit_and (get_or a p 0) (get_or b p 0) < 2 ^ k → count ≡ count_below (in_both a b) (p * 64)
    → count + ones (bit_and (get_or a p 0) (get_or b p 0)) ≡ count_below (in_both a b) ((p + 1) * 64)
common_more a b p count k is fits so_far =
    let w = bit_and (get_or a p 0) (get_or b p 0) in
    ap₂ (λ x y. x + y) so_far (ones_are k w fits ∙ count_below_same (λ i. bit_at w i == 1) (λ i. in_both a b (p * 64 + i)) k (λ i lt. sym (in_both_words a b p i (omega (arith, lt, is)))))
    ∙ sym (count_below_add (in_both a b) (p * 64) k) ∙ ap (count_below (in_both a b)) (more p k is)
  where
    more : (p k : ℕ) → k ≡ 64 → p * 64 + k ≡ (p + 1) * 64
    more p k is = omega arith

-- no number from n on passes
pub count_below_to : (test : ℕ → Bool) (n more : ℕ) → ((k : ℕ) → n ≤ k → test k ≡ false) → count_below test (n + more) ≡ count_below test n
count_below_to test n more none =
    count_below_add test n more ∙ ap (λ c. count_below test n + c) (count_below_none (λ k. test (n + k)) more (λ k _. none (n + k) (omega arith))) ∙ add-zero (count_below test n)

-- 2,000, as a number that does not reduce
limit : ℕ
limit = 2000

limit_is : limit ≡ 2000
unfolding limit
limit_is = refl

counted : (test : ℕ → Bool) → count_marked test ≡ count_below test limit
unfolding count_marked limit
counted test = refl

pub count_marked_above : (test : ℕ → Bool) (n : ℕ) → 2000 ≤ n → ((k : ℕ) → 2000 ≤ k → test k ≡ false) → count_below test n ≡ count_marked test
count_marked_above test n many none = ap (count_below test) (sym (up n limit many limit_is)) ∙ count_below_to test limit (n - limit) (λ k le. none k (omega (arith, le, limit_is))) ∙ sym (counted test)
  where
    up : (n l : ℕ) → 2000 ≤ n → l ≡ 2000 → l + (n - l) ≡ n
    up n l few is = omega arith

-- the least number that passes, if no number of the earlier words does
pub least_in_word : (test : ℕ → Bool) (p w : ℕ) → w < 2 ^ 64 → w ≢ 0 → ((i : ℕ) → i < 64 → test (p * 64 + i) ≡ (bit_at w i == 1))
    → ((n : ℕ) → n / 64 < p → test n ≡ false) → IsLeast test (Some (p * 64 + trailing_zeros w64 w))
least_in_word test p w fits some bits before =
    let t = trailing_zeros w64 w in
    let low : (t < 64) × (bit_at w t ≡ 1) × ((i : ℕ) → i < t → bit_at w i ≡ 0) = bit_at-trailing_zeros w64 w (omega (arith, some)) fits in (
      bits t low.0 ∙ ap (λ n. n == 1) low.1,
      λ m lt. bool_case _ (nat_lt (m / 64) p)
          (λ is. before m ((Decides-ltb (m / 64) p).0 is))
          (λ isnt.
          let q : m / 64 ≡ p = word m t (not_below (m / 64) p isnt) lt low.0 in
          let at : m ≡ p * 64 + m % 64 = sym (div-add-mod' m 64) ∙ ap (λ k. k * 64 + m % 64) q in
          let early : m % 64 < t = omega (arith, at, lt) in
          ap test at ∙ bits (m % 64) (mod_below m 64 (omega arith)) ∙ ap (λ n. n == 1) (low.2 (m % 64) early)),
    )
  where
    word : (m t : ℕ) → p ≤ m / 64 → m < p * 64 + t → t < 64 → m / 64 ≡ p
    word m t h lt small = omega (arith, div-add-mod' m 64)

pub none_in_word : (test : ℕ → Bool) (p w : ℕ) → w ≡ 0 → ((i : ℕ) → i < 64 → test (p * 64 + i) ≡ (bit_at w i == 1))
    → ((n : ℕ) → n / 64 < p → test n ≡ false) → (n : ℕ) → n / 64 < p + 1 → test n ≡ false
none_in_word test p w none bits before n lt = bool_case _ (nat_lt (n / 64) p)
    (λ is. before n ((Decides-ltb (n / 64) p).0 is))
    (λ isnt.
    let q : n / 64 ≡ p = word n (not_below (n / 64) p isnt) lt in
    let at : n ≡ p * 64 + n % 64 = sym (div-add-mod' n 64) ∙ ap (λ k. k * 64 + n % 64) q in
    ap test at ∙ bits (n % 64) (mod_below n 64 (omega arith)) ∙ ap (λ v. bit_at v (n % 64) == 1) none ∙ ap (λ v. v == 1) (bit_at-zero (n % 64)))
  where
    word : (n : ℕ) → p ≤ n / 64 → n / 64 < p + 1 → n / 64 ≡ p
    word n a b = omega arith

-- the marks of one word from a number on
abbrev pub marked_from : ℕ → List ℕ → ℕ → Bool
marked_from first a n = nat_le first n && is_marked a n

pub from_word : (a : List ℕ) (first i : ℕ) → i < 64 → marked_from first a (first / 64 * 64 + i) ≡ (bit_at (bit_and (get_or a (first / 64) 0) ((2 ^ 64 - 1) * 2 ^ (first % 64) % 2 ^ 64)) i == 1)
from_word a first i lt =
    ap (λ b. nat_le first (first / 64 * 64 + i) && b) (marked_in_word a (first / 64) i lt)
    ∙ bool_case _ (nat_lt i (first % 64))
    (λ is. rw (early is) (sym (without is)))
    (λ isnt. rw (late isnt) (sym (inside_mask isnt)))
  where
    w : ℕ
    w = get_or a (first / 64) 0

    mask : (2 ^ 64 - 1) * 2 ^ (first % 64) % 2 ^ 64 ≡ 2 ^ 64 - 2 ^ (first % 64)
    mask = ones_shl 64 (first % 64) (omega (arith, mod_below first 64))

    split : first / 64 * 64 + first % 64 ≡ first
    split = div-add-mod' first 64

    early : nat_lt i (first % 64) ≡ true → nat_le first (first / 64 * 64 + i) ≡ false
    early is = let lt : i < first % 64 = (Decides-ltb i (first % 64)).0 is in grind (arith, nat_tests, split)

    late : nat_lt i (first % 64) ≡ false → nat_le first (first / 64 * 64 + i) ≡ true
    late isnt = let le : first % 64 ≤ i = not_below i (first % 64) isnt in grind (arith, nat_tests, split)

    masked : (bit_at (bit_and w ((2 ^ 64 - 1) * 2 ^ (first % 64) % 2 ^ 64)) i == 1) ≡ (bit_at w i == 1 && bit_at (2 ^ 64 - 2 ^ (first % 64)) i == 1)
    masked = ap (λ m. bit_at (bit_and w m) i == 1) mask ∙ both_bits w (2 ^ 64 - 2 ^ (first % 64)) i

    and_none : (b : Bool) → (b && false) ≡ false
    and_none true = refl
    and_none false = refl

    and_all : (b : Bool) → (b && true) ≡ b
    and_all true = refl
    and_all false = refl

    without : nat_lt i (first % 64) ≡ true → (bit_at (bit_and (get_or a (first / 64) 0) ((2 ^ 64 - 1) * 2 ^ (first % 64) % 2 ^ 64)) i == 1) ≡ false
    without is = masked ∙ ap (λ n. bit_at w i == 1 && n == 1) (bit_at_mask_below (first % 64) 64 i ((Decides-ltb i (first % 64)).0 is)) ∙ and_none (bit_at w i == 1)

    inside_mask : nat_lt i (first % 64) ≡ false → (bit_at (bit_and (get_or a (first / 64) 0) ((2 ^ 64 - 1) * 2 ^ (first % 64) % 2 ^ 64)) i == 1) ≡ (bit_at (get_or a (first / 64) 0) i == 1)
    inside_mask isnt = masked ∙ ap (λ n. bit_at w i == 1 && n == 1) (bit_at_mask_inside (first % 64) 64 i (not_below i (first % 64) isnt) lt) ∙ and_all (bit_at w i == 1)

-- no number of the earlier words passes
pub none_before : (a : List ℕ) (first n : ℕ) → n / 64 < first / 64 → marked_from first a n ≡ false
none_before a first n lt = ap (λ b. b && is_marked a n) (before first n (div_apart first n lt))
  where
    div_apart : (first n : ℕ) → n / 64 < first / 64 → n < first
    div_apart first n lt = omega (arith, div-add-mod' first 64, div-add-mod' n 64)

    before : (first n : ℕ) → n < first → nat_le first n ≡ false
    before first n lt = grind (arith, nat_tests)

-- no number from 2,000 on passes
pub none_past : (a : List ℕ) → AreMarks a → (first n : ℕ) → 2000 ≤ n → marked_from first a n ≡ false
none_past a are first n large = ap (λ b. nat_le first n && b) (are.within n large) ∙ and_none (nat_le first n)
  where
    and_none : (b : Bool) → (b && false) ≡ false
    and_none true = refl
    and_none false = refl

-- no number is between a number and one that is not greater
pub none_between : (a : List ℕ) (first end n : ℕ) → end ≤ first → (nat_lt n end && marked_from first a n) ≡ false
none_between a first end n le = bool_case _ (nat_lt n end)
    (λ is. rw is (ap (λ b. b && is_marked a n) (before first n ((Decides-ltb n end).0 is) le)))
    (λ isnt. rw isnt refl)
  where
    before : (first n : ℕ) → n < end → end ≤ first → nat_le first n ≡ false
    before first n lt le = grind (arith, nat_tests)

-- one of the later words, whose numbers are all at least the first number
pub later_word : (a : List ℕ) (first p i : ℕ) → first / 64 < p → i < 64 → marked_from first a (p * 64 + i) ≡ (bit_at (get_or a p 0) i == 1)
later_word a first p i later lt = ap (λ b. b && is_marked a (p * 64 + i)) (after first p i later) ∙ marked_in_word a p i lt
  where
    after : (first p i : ℕ) → first / 64 < p → nat_le first (p * 64 + i) ≡ true
    after first p i later =
        let split : first / 64 * 64 + first % 64 ≡ first = div-add-mod' first 64 in
        let low : first % 64 < 64 = mod_below first 64 (omega arith) in
        grind (arith, nat_tests, split, low)

pub none_common : (a b : List ℕ) → AreMarks a → (n : ℕ) → 2000 ≤ n → in_both a b n ≡ false
none_common a b are n large = ap (λ t. t && is_marked b n) (are.within n large)

-- the common bits in one of the words below p are bits of this word
abbrev pub Seen : List ℕ → List ℕ → ℕ → ℕ → Type 0
Seen a b p common = (n : ℕ) → n / 64 < p → in_both a b n ≡ true → (bit_at common (n % 64) == 1) ≡ true

pub seen_more : (a b : List ℕ) (p common : ℕ) → Seen a b p common → Seen a b (p + 1) (bit_or common (bit_and (get_or a p 0) (get_or b p 0)))
seen_more a b p common so_far n lt is =
    let w = bit_and (get_or a p 0) (get_or b p 0) in
    either_bit common w (n % 64) ∙ bool_case _ (nat_lt (n / 64) p)
    (λ below. ap (λ x. x || bit_at w (n % 64) == 1) (so_far n ((Decides-ltb (n / 64) p).0 below) is))
    (λ isnt.
    let q : n / 64 ≡ p = word n (not_below (n / 64) p isnt) lt in
    let at : n ≡ p * 64 + n % 64 = sym (div-add-mod' n 64) ∙ ap (λ k. k * 64 + n % 64) q in
    ap (λ x. bit_at common (n % 64) == 1 || x) (sym (in_both_words a b p (n % 64) (mod_below n 64 (omega arith))) ∙ ap (in_both a b) (sym at) ∙ is) ∙ or_true (bit_at common (n % 64) == 1))
  where
    word : (n : ℕ) → p ≤ n / 64 → n / 64 < p + 1 → n / 64 ≡ p
    word n a b = omega arith

    or_true : (x : Bool) → (x || true) ≡ true
    or_true true = refl
    or_true false = refl

-- if that word is 0, there are no common bits
pub none_seen : (a b : List ℕ) (p common : ℕ) → 32 ≤ p → AreMarks a → common ≡ 0 → Seen a b p common → (n : ℕ) → in_both a b n ≡ false
none_seen a b p common all are none so_far n = bool_case _ (nat_lt (n / 64) p)
    (λ below. bool_case _ (in_both a b n)
    (λ is. absurd (no_bit (n % 64) (sym (so_far n ((Decides-ltb (n / 64) p).0 below) is))))
    (λ isnt. isnt))
    (λ above. none_common a b are n (omega (arith, not_below (n / 64) p above, all)))
  where
    no_bit : (k : ℕ) → true ≡ (bit_at common k == 1) → ⊥
    no_bit k e = true≢false (e ∙ ap (λ v. bit_at v k == 1) none ∙ ap (λ v. v == 1) (bit_at-zero k))

pub zero_of : (n : ℕ) → not (n == 0) ≡ false → n ≡ 0
zero_of n h = grind (arith, nat_tests)

-- the count is 0 if no number passes
pub count_none : (test : ℕ → Bool) → ((n : ℕ) → test n ≡ false) → 0 ≡ count_marked test
count_none test none = sym (counted test ∙ count_below_none test limit (λ k lt. none k))

-- the least number that passes is the least of those below a bound, if it is below the bound
and_no : (a b : Bool) → b ≡ false → (a && b) ≡ false
and_no true b e = e
and_no false b e = refl

pub least_below : (test : ℕ → Bool) (count n : ℕ) → IsLeast test (Some n) → IsLeast (λ k. nat_lt k count && test k) (then_some (nat_lt n count) n)
least_below test count n least = by (nat_lt n count) refl
  where
    by : (b : Bool) → nat_lt n count ≡ b → IsLeast (λ k. nat_lt k count && test k) (then_some b n)
    by true e = (ap₂ (λ a b. a && b) e least.0, λ m lt. and_no (nat_lt m count) (test m) (least.1 m lt))
    by false e = λ k. bool_case _ (nat_lt k n)
        (λ is. and_no (nat_lt k count) (test k) (least.1 k ((Decides-ltb k n).0 is)))
        (λ isnt. let past : nat_lt k count ≡ false = grind (arith, nat_tests, not_below k n isnt, not_below n count e) in rw past refl)

pub least_within : (count n : ℕ) → IfSome (then_some (nat_lt n count) n) (λ k. k < count)
least_within count n = by (nat_lt n count) refl
  where
    by : (b : Bool) → nat_lt n count ≡ b → IfSome (then_some b n) (λ k. k < count)
    by true e = (Decides-ltb n count).0 e
    by false e = tt

-- the least number that passes a test is the least that passes an equal test
pub least_same : (f g : ℕ → Bool) → ((n : ℕ) → f n ≡ g n) → (found : Option ℕ) → IsLeast f found → IsLeast g found
least_same f g same None h = λ n. sym (same n) ∙ h n
least_same f g same (Some k) h = (sym (same k) ∙ h.0, λ m lt. sym (same m) ∙ h.1 m lt)

-- if no number from a bound on passes, the least below the bound is the least of all
pub least_of_all : (test : ℕ → Bool) (end : ℕ) → ((n : ℕ) → test n ≡ true → n < end) → (found : Option ℕ) → IsLeast (λ n. nat_lt n end && test n) found → IsLeast test found
least_of_all test end within found least = least_same (λ n. nat_lt n end && test n) test (λ n. either n (test n) refl) found least
  where
    either : (n : ℕ) (b : Bool) → test n ≡ b → (nat_lt n end && test n) ≡ test n
    either n true e = let lt : n < end = within n e in let yes : nat_lt n end ≡ true = grind (arith, nat_tests) in ap (λ a. a && test n) yes
    either n false e = and_no (nat_lt n end) (test n) e ∙ sym e

-- the same for the marked numbers from one on, if all are below the bound
pub next_of_all : (marks : ℕ → Bool) (first end : ℕ) → ((n : ℕ) → marks n ≡ true → n < end) → (found : Option ℕ)
    → IsLeast (λ n. nat_lt n end && (nat_le first n && marks n)) found → IsLeast (λ n. nat_le first n && marks n) found
next_of_all marks first end within = least_of_all (λ n. nat_le first n && marks n) end (λ n h. within n (and_parts (nat_le first n) (marks n) h).1)

-- no number passes if none passes in the first words
pub none_below : (test : ℕ → Bool) (count p : ℕ) → count ≤ p * 64 → ((n : ℕ) → n / 64 < p → test n ≡ false) → (n : ℕ) → (nat_lt n count && test n) ≡ false
none_below test count p le none n = bool_case _ (nat_lt n count)
    (λ is. and_no (nat_lt n count) (test n) (none n (let lt : n < count = (Decides-ltb n count).0 is in omega arith)))
    (λ isnt. rw isnt refl)

-- the union of one word with other bits
or_word : (words : List ℕ) (p w : ℕ) → p < length words → (n : ℕ) → is_marked (slice_set words p (bit_or (get_or words p 0) w)) n ≡ (is_marked words n || (n / 64 == p && bit_at w (n % 64) == 1))
unfolding is_marked
or_word words p w within n = bool_case _ (n / 64 == p)
    (λ is.
    let e : n / 64 ≡ p = eqb-true (n / 64) p is in
    let k = n % 64 in
    let word : get_or (slice_set words p (bit_or (get_or words p 0) w)) (n / 64) 0 ≡ bit_or (get_or words p 0) w = get_or-set_at words p (n / 64) (bit_or (get_or words p 0) w) 0 e within in
    rw is (ap (λ v. bit_at v k == 1) word ∙ either_bit (get_or words p 0) w k ∙ ap (λ q. bit_at (get_or words q 0) k == 1 || bit_at w k == 1) (sym e)))
    (λ isnt.
    let k = n % 64 in
    let word : get_or (slice_set words p (bit_or (get_or words p 0) w)) (n / 64) 0 ≡ get_or words (n / 64) 0 = get_or-set_other words p (n / 64) (bit_or (get_or words p 0) w) 0 (eqb-false (n / 64) p isnt) in
    rw isnt (ap (λ v. bit_at v k == 1) word ∙ or_false (bit_at (get_or words (n / 64) 0) k == 1)))
  where
    or_false : (b : Bool) → b ≡ (b || false)
    or_false true = refl
    or_false false = refl

-- all bits of the words below p are set
pub record FilledBelow (old words : List ℕ) (p : ℕ) : Type 0 where
  pub size : length words ≡ length old
  pub marks : (n : ℕ) → is_marked words n ≡ (is_marked old n || nat_lt (n / 64) p)

pub filled_none : (old : List ℕ) → FilledBelow old old 0
filled_none old = record { size = refl; marks = λ n. none (is_marked old n) (n / 64) }
  where
    none : (a : Bool) (q : ℕ) → a ≡ (a || nat_lt q 0)
    none a q = grind (arith, nat_tests)

pub filled_within : (old : List ℕ) (count p : ℕ) → AreMarks old → count ≤ 2000 → p < count / 64 → p < length old
filled_within old count p are few lt = rw are.size (omega (arith, few, lt, div_below count 64 32 (omega arith) (omega (arith, few))))

pub filled_more : (old words : List ℕ) (p : ℕ) → p < length old → FilledBelow old words p → FilledBelow old (slice_set words p (bit_or (get_or words p 0) (2 ^ 64 - 1))) (p + 1)
filled_more old words p within so_far = record {
  size = length-set words p (bit_or (get_or words p 0) (2 ^ 64 - 1)) ∙ so_far.size;
  marks = λ n. or_word words p (2 ^ 64 - 1) (rw so_far.size within) n
      ∙ ap₂ (λ a b. a || (n / 64 == p && b)) (so_far.marks n) (ap (λ b. b == 1) (bit_at_ones 64 (n % 64) (mod_below n 64 (omega arith))))
      ∙ join (is_marked old n) (n / 64) p;
}
  where
    join : (a : Bool) (q p : ℕ) → ((a || nat_lt q p) || (q == p && true)) ≡ (a || nat_lt q (p + 1))
    join a q p = grind (arith, nat_tests)

-- the lower bits of the next word are set too
module _ (old words : List ℕ) (count : ℕ) (few : count ≤ 2000) (are : AreMarks old) (so_far : FilledBelow old words (count / 64)) where
  pub filled_is : (n : ℕ) → is_marked (slice_set words (count / 64) (bit_or (get_or words (count / 64) 0) (1 * 2 ^ (count % 64) % 2 ^ 64 - 1))) n ≡ (is_marked old n || nat_lt n count)
  filled_is n =
      or_word words (count / 64) (1 * 2 ^ (count % 64) % 2 ^ 64 - 1) (rw (so_far.size, are.size) (div_below count 64 32 (omega arith) (omega (arith, few)))) n
      ∙ ap₂ (λ a b. a || (n / 64 == count / 64 && b)) (so_far.marks n) (ap (λ v. bit_at (v - 1) (n % 64) == 1) (one_shl (count % 64) low) ∙ bits (count % 64) (n % 64))
      ∙ join (is_marked old n)
    where
      low : count % 64 < 64
      low = mod_below count 64 (omega arith)

      bits : (k i : ℕ) → (bit_at (2 ^ k - 1) i == 1) ≡ nat_lt i k
      bits k i = bool_case _ (nat_lt i k)
          (λ is. rw is (ap (λ b. b == 1) (bit_at_ones k i ((Decides-ltb i k).0 is))))
          (λ isnt. rw isnt (ap (λ b. b == 1) (bit_at_ones_above k i (not_below i k isnt))))

      join : (a : Bool) → ((a || nat_lt (n / 64) (count / 64)) || (n / 64 == count / 64 && nat_lt (n % 64) (count % 64))) ≡ (a || nat_lt n count)
      join a =
          let split_n : n / 64 * 64 + n % 64 ≡ n = div-add-mod' n 64 in
          let split : count / 64 * 64 + count % 64 ≡ count = div-add-mod' count 64 in
          let low_n : n % 64 < 64 = mod_below n 64 (omega arith) in
          let low_c : count % 64 < 64 = low in
          grind (arith, nat_tests, split_n, split, low_n, low_c)

  pub filled_are : AreMarks (slice_set words (count / 64) (bit_or (get_or words (count / 64) 0) (1 * 2 ^ (count % 64) % 2 ^ 64 - 1)))
  filled_are = changed_are words (count / 64) (bit_or (get_or words (count / 64) 0) (1 * 2 ^ (count % 64) % 2 ^ 64 - 1)) (so_far.size ∙ are.size)
      (λ n large. filled_is n ∙ ap₂ (λ a b. a || b) (are.within n large) (past n large))
    where
      past : (n : ℕ) → 2000 ≤ n → nat_lt n count ≡ false
      past n large = grind (arith, nat_tests, few)
