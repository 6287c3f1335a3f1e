-- Bytes tested a vector at a time: the mask of those that pass a test, and the run before the first
-- of them.
use Rattle.std.proofs.Common.{◌≡◌, ℕ, ◌+◌, ◌-◌, ◌*◌, ◌%◌, ◌^◌, ◌<◌, ◌≤◌, eqb, ltb, Bool, true, false, not, cond, List, [], ◌∷◌, map, length, drop, ◌++◌, replicate, Fits, w8, refl, ap, ap₂, ◌∙◌, sym, subst, arith, zero-add}
use Rattle.std.specs.Prelude.{bit_or}
use Rattle.std.specs.List.{prefix_len}
use Rattle.std.proofs.lemmas.Bool.{agree_below, agree_below_at, eq-eqb, ne_eqb}
use Rattle.std.proofs.lemmas.Simd.{mask_l-mod, map-map, zip2_splat, length-chunk, chunk-drop, leading_from_mask_l, trailing_mask_l}
use Rattle.std.proofs.lemmas.List.{length-map}
use Rattle.std.proofs.lemmas.List.Folds.{prefix_len-append}
use Rattle.std.proofs.lemmas.List.Sums.{prefix_len-le-length}
use lib.Lanes.{zip2, Each1, mask_l, top, chunk}
use lib.Count.{count_trailing_zeros}

-- the result of a test in a lane
abbrev pub set_if : Bool → ℕ
set_if b = cond b 255 0

-- a space, or one of the five bytes from 9 on; the subtraction wraps smaller bytes to large ones
abbrev pub blank_lane : ℕ → ℕ
blank_lane x = bit_or (set_if (eqb x 32)) (set_if (ltb ((x + (256 - 9)) % 256) 5))

joined : (h : ℕ → ℕ → ℕ) (f g : ℕ → ℕ) (xs : List ℕ) → zip2 h (map f xs) (map g xs) ≡ map (λ x. h (f x) (g x)) xs
joined h f g [] = refl
joined h f g (x ∷ xs) = ap (λ r. h (f x) (g x) ∷ r) (joined h f g xs)

-- the lanes of a load, tested
pub lanes_are : (xs : List ℕ) (n : ℕ) → length xs ≡ n
    → zip2 bit_or (zip2 (λ a b. set_if (eqb a b)) xs (replicate n 32)) (zip2 (λ a b. set_if (ltb a b)) (zip2 (λ a b. (a + (256 - b)) % 256) xs (replicate n 9)) (replicate n 5))
    ≡ map blank_lane xs
lanes_are xs n long =
    let less = λ (a b : ℕ). (a + (256 - b)) % 256 in
    let others : zip2 (λ a b. set_if (ltb a b)) (zip2 less xs (replicate n 9)) (replicate n 5) ≡ map (λ x. set_if (ltb (less x 9) 5)) xs
    = ap (λ l. zip2 (λ a b. set_if (ltb a b)) l (replicate n 5)) (zip2_splat less xs n 9 long)
    ∙ zip2_splat (λ a b. set_if (ltb a b)) (map (λ x. less x 9) xs) n 5 (length-map xs (λ x. less x 9) ∙ long)
    ∙ map-map (λ x. set_if (ltb x 5)) (λ x. less x 9) xs in
    ap₂ (zip2 bit_or) (zip2_splat (λ a b. set_if (eqb a b)) xs n 32 long) others
    ∙ joined bit_or (λ x. set_if (eqb x 32)) (λ x. set_if (ltb (less x 9) 5)) xs

each_byte : (f : ℕ → ℕ) (p : ℕ → Bool) → agree_below (λ x. top 7 (f x)) p 256 ≡ true → (xs : List ℕ) → Each1 (Fits w8) xs → map (top 7) (map f xs) ≡ map p xs
each_byte f p all [] fits = refl
each_byte f p all (x ∷ xs) fits = ap₂ (λ a b. a ∷ b) (agree_below_at (λ x. top 7 (f x)) p 256 x all fits.0.fits) (each_byte f p all xs fits.1)

-- what is computed lane by lane is compared with a test of each of the 256 bytes
pub mask_is : (f : ℕ → ℕ) (p : ℕ → Bool) (xs z : List ℕ) → length xs ≤ 64 → Each1 (Fits w8) xs → z ≡ map f xs → agree_below (λ x. top 7 (f x)) p 256 ≡ true
    → mask_l (map (top 7) z) % 2 ^ 64 ≡ mask_l (map p xs)
mask_is f p xs z short fits e all =
    ap (λ l. mask_l l % 2 ^ 64) (ap (map (top 7)) e ∙ each_byte f p all xs fits) ∙ mask_l-mod (map p xs) 64 (omega (arith, length-map xs p))

none_passes : (b : Bool) (n l m : ℕ) → n ≤ l → cond (not b) (1 + n) 0 ≡ 1 + l → (n ≡ l → m ≡ 0) → cond b 1 0 + 2 * m ≡ 0
none_passes true n l m le e ih = let no : ⊥ = omega arith in absurd no
none_passes false n l m le e ih = let z = ih (omega arith) in omega arith

module _ (p : ℕ → Bool) where
  abbrev fails : ℕ → Bool
  fails x = not (p x)

  all_fail : (xs : List ℕ) → prefix_len fails xs ≡ length xs → mask_l (map p xs) ≡ 0
  all_fail [] e = refl
  all_fail (x ∷ xs) e = none_passes (p x) _ (length xs) _ (prefix_len-le-length fails xs) (omega arith) (all_fail xs)

  -- the run before the first byte that passes, from the first n bytes and the rest
  split : (xs : List ℕ) (n : ℕ) → prefix_len fails xs ≡ cond (eqb (prefix_len fails (chunk 0 n xs)) (length (chunk 0 n xs))) (length (chunk 0 n xs) + prefix_len fails (drop n xs)) (prefix_len fails (chunk 0 n xs))
  split xs n = ap (prefix_len fails) (chunk-drop 0 n xs ∙ ap (λ k. chunk 0 n xs ++ drop k xs) (zero-add n)) ∙ prefix_len-append fails (chunk 0 n xs) (drop n xs)

  pub run_through : (xs : List ℕ) (n : ℕ) → n ≤ length xs → mask_l (map p (chunk 0 n xs)) ≡ 0 → prefix_len fails xs ≡ n + prefix_len fails (drop n xs)
  run_through xs n room none =
      let c = chunk 0 n xs in
      split xs n ∙ ap (λ b. cond b (length c + prefix_len fails (drop n xs)) (prefix_len fails c)) (eq-eqb _ _ (leading_from_mask_l p c none))
      ∙ ap (λ k. k + prefix_len fails (drop n xs)) (length-chunk 0 n xs (subst (λ k. k ≤ length xs) (sym (zero-add n)) room))

  pub run_stops : (xs : List ℕ) (n : ℕ) → n ≤ length xs → n ≤ 64 → 0 < mask_l (map p (chunk 0 n xs)) → prefix_len fails xs ≡ count_trailing_zeros 64 (mask_l (map p (chunk 0 n xs)))
  run_stops xs n room short some =
      let c = chunk 0 n xs in
      split xs n ∙ ap (λ b. cond b (length c + prefix_len fails (drop n xs)) (prefix_len fails c)) (ne_eqb _ _ (λ (e : prefix_len fails c ≡ length c). omega (arith, all_fail c e)))
      ∙ sym (trailing_mask_l p 64 c (omega (arith, length-chunk 0 n xs (subst (λ k. k ≤ length xs) (sym (zero-add n)) room))) some)
