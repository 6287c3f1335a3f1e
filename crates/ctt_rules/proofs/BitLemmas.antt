-- The bits of a word.
use Rattle.std.proofs.Common.{◌≡◌, ℕ, zero, suc, ◌+◌, ◌-◌, ◌*◌, ◌/◌, ◌%◌, ◌^◌, ◌<◌, ◌≤◌, Bool, true, cond, not, ◌&&◌, ◌||◌, ◌==◌, ltb, refl, ◌∙◌, sym, ap, ap₂, arith, inl, inr}
use Rattle.std.specs.Prelude.{count_ones, bit_and, bit_or}
use Rattle.std.specs.Int.{bit_at, bit_not, w64}
use Rattle.std.proofs.lemmas.Nat.{ones-le, div-add-mod', mod_below, pow_pos, or_lt, and_le_r}
use Rattle.std.proofs.lemmas.Nat.Bits.{bit_at-lt, bit_at_cat_low, bit_at_cat_high, bit_at-suc, bit_at_not, bit_at_set_same, bit_at_set_other, bit_at_mask_inside, bit_at_mask_below, bit_at_mask_above}
use Rattle.std.proofs.lemmas.Bool.{cases_Bool, cases_eq, cases_lt, eq-eqb, ne_eqb, ltb-true, lt-ltb, le-ltb, and_from, and_left, and_right, and_parts}
use Rattle.ctt_problem.specs.Lists.{count_below}
use Rattle.ctt_problem.proofs.MarkLemmas.{both_bits, either_bit, ones_are}
use Rattle.ctt_rules.specs.Windows.{has_bit}
use Rattle.ctt_rules.proofs.SumLemmas.{sum_below_same}

pub bit_of_not : (a j : ℕ) → a < 2 ^ 64 → j < 64 → has_bit (bit_not w64 a) j ≡ not (has_bit a j)
bit_of_not a j small lt = ap (λ n. n == 1) (bit_at_not w64 a j small lt) ∙ by (bit_at a j) (bit_at-lt a j)
  where
    by : (m : ℕ) → m < 2 → (1 - m == 1) ≡ not (m == 1)
    by zero l = refl
    by (suc zero) l = refl
    by (suc (suc m)) l = absurd (omega (arith, l))

-- the low bits of a number are those of its remainder modulo a power of two
low_bits : (n k j : ℕ) → j < k → bit_at (n % 2 ^ k) j ≡ bit_at n j
low_bits n k j lt = sym (bit_at_cat_low (n / 2 ^ k) k (n % 2 ^ k) j lt) ∙ ap (λ m. bit_at m j) (div-add-mod' n (2 ^ k))

-- the bits of a word that is shifted left or right by one
pub bit_of_shl : (a j : ℕ) → j < 63 → has_bit (a * 2 ^ 1 % 2 ^ 64) (suc j) ≡ has_bit a j
bit_of_shl a j lt = ap (λ n. n == 1) (low_bits (a * 2 ^ 1) 64 (suc j) (omega arith) ∙ up)
  where
    up : bit_at (a * 2 ^ 1) (suc j) ≡ bit_at a j
    up = ap (λ n. bit_at n (suc j)) (omega arith) ∙ bit_at_cat_high a 1 0 (suc j) (omega arith) (omega arith) ∙ ap (bit_at a) (omega arith)

pub bit_of_shr : (a j : ℕ) → has_bit (a / 2 ^ 1) j ≡ has_bit a (suc j)
bit_of_shr a j = ap (λ n. n == 1) (sym (bit_at-suc a j))

pub bit_of_set : (a k j : ℕ) → k < 64 → has_bit (bit_or a (1 * 2 ^ k % 2 ^ 64)) j ≡ (j == k || has_bit a j)
bit_of_set a k j lt = elim (cases_eq j k) [
  | inl same ↦ (ap (λ n. n == 1) (ap (bit_at (bit_or a (1 * 2 ^ k % 2 ^ 64))) same ∙ bit_at_set_same w64 a k lt) ∙ sym (ap (λ b. b || has_bit a j) (eq-eqb j k same)))
  | inr other ↦ (ap (λ n. n == 1) (bit_at_set_other w64 a k lt j other) ∙ sym (ap (λ b. b || has_bit a j) (ne_eqb j k other)))
]

-- the number of bits that are set in both words
pub common_counted : (a b : ℕ) → b < 2 ^ 64 → count_ones (bit_and a b) ≡ count_below (λ j. has_bit a j && has_bit b j) 64
common_counted a b lt = ones_are 64 (bit_and a b) (omega (arith, and_le_r a b)) ∙ sum_below_same (λ j. cond (has_bit (bit_and a b) j) 1 0) (λ j. cond (has_bit a j && has_bit b j) 1 0) 64 (λ j. ap (λ c. cond c 1 0) (both_bits a b j))

pub few_ones : (a b : ℕ) → b < 2 ^ 64 → count_ones (bit_and a b) ≤ 64
few_ones a b lt = ones-le 64 (bit_and a b) (omega (arith, and_le_r a b))

-- the places 1 to 62
inner_bits : (j : ℕ) → has_bit 9223372036854775806 j ≡ (ltb 0 j && ltb j 63)
inner_bits j = elim (cases_lt 0 j) [
  | inl low ↦ elim (cases_lt j 63) [
    | inl high ↦ (ap (λ n. n == 1) (bit_at_mask_inside 1 63 j low high) ∙ sym (and_from (ltb 0 j) (ltb j 63) (lt-ltb 0 j low) (lt-ltb j 63 high)))
    | inr past ↦ (ap (λ n. n == 1) (bit_at_mask_above 1 63 j past) ∙ sym (and_right (ltb 0 j) (ltb j 63) (le-ltb j 63 past)))
  ]
  | inr none ↦ (ap (λ n. n == 1) (bit_at_mask_below 1 63 j (omega (arith, none))) ∙ sym (and_left (ltb 0 j) (ltb j 63) (le-ltb 0 j none)))
]

-- the places 1 to 62 that have no set bit next to them
module _ (a : ℕ) (small : a < 2 ^ 64) where
  abbrev beside : ℕ
  beside = bit_or (a * 2 ^ 1 % 2 ^ 64) (a / 2 ^ 1)

  beside_small : beside < 2 ^ 64
  beside_small = or_lt 64 (a * 2 ^ 1 % 2 ^ 64) (a / 2 ^ 1) (mod_below (a * 2 ^ 1) (2 ^ 64) (pow_pos 64)) (omega (arith, small))

  beside_is : (j : ℕ) → 0 < j → j < 63 → has_bit beside j ≡ (has_bit a (j - 1) || has_bit a (j + 1))
  beside_is j low high =
      either_bit (a * 2 ^ 1 % 2 ^ 64) (a / 2 ^ 1) j
      ∙ ap₂ (λ a b. a || b) (ap (has_bit (a * 2 ^ 1 % 2 ^ 64)) (omega (arith, low)) ∙ bit_of_shl a (j - 1) (omega (arith, high))) (bit_of_shr a j ∙ ap (has_bit a) (omega arith))

  pub free_of_neighbours : (j : ℕ) → has_bit (bit_and (bit_not w64 beside) 9223372036854775806) j ≡ ((ltb 0 j && ltb j 63) && (not (has_bit a (j - 1)) && not (has_bit a (j + 1))))
  free_of_neighbours j = both_bits (bit_not w64 beside) 9223372036854775806 j ∙ ap (λ b. has_bit (bit_not w64 beside) j && b) (inner_bits j) ∙ elim (cases_Bool (ltb 0 j && ltb j 63)) [
    | inl yes' ↦ (
        let parts = and_parts (ltb 0 j) (ltb j 63) yes' in
        let low : 0 < j = ltb-true 0 j parts.0 in
        let high : j < 63 = ltb-true j 63 parts.1 in
        ap₂ (λ a b. a && b) (bit_of_not beside j beside_small (omega (arith, high)) ∙ ap not (beside_is j low high)) yes'
        ∙ turn (has_bit a (j - 1)) (has_bit a (j + 1)) ∙ sym (ap (λ b. b && (not (has_bit a (j - 1)) && not (has_bit a (j + 1)))) yes'))
    | inr no' ↦ (and_right (has_bit (bit_not w64 beside) j) (ltb 0 j && ltb j 63) no' ∙ sym (and_left (ltb 0 j && ltb j 63) (not (has_bit a (j - 1)) && not (has_bit a (j + 1))) no'))
  ]
    where
      turn : (x y : Bool) → (not (x || y) && true) ≡ (true && (not x && not y))
      turn x y = grind arith
