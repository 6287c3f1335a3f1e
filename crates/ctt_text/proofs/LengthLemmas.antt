-- The lengths of the sections of an instance's text.
use Rattle.std.proofs.Common.{◌≡◌, ◌∙◌, ℕ, zero, suc, ◌+◌, ◌-◌, ◌<◌, ◌≤◌, true, false, List, [], ◌∷◌, drop, nat_lt, slice_index_or, refl, sym, ap, arith}
use Rattle.std.proofs.lemmas.Bool.Decides.{nat_tests}
use Rattle.std.proofs.lemmas.List.{drop-drop, get_or-drop}
use Rattle.ctt_text.specs.Numbers.{number_of}
use Rattle.ctt_text.specs.Places.{meant}
use Rattle.ctt_text.specs.Entries.{curriculum_in}
use Rattle.ctt_text.specs.Sections.{curricula_len, stated}

-- the words after a name and a number
pub two_behind : (ws : List (List ℕ)) (m : ℕ) → drop m (drop 1 (drop 1 ws)) ≡ drop (2 + m) ws
two_behind ws m =
    let sum : 1 + (1 + m) ≡ 2 + m = omega arith in
    drop-drop m 1 (drop 1 ws) ∙ drop-drop (1 + m) 1 ws ∙ ap (λ k. drop k ws) sum

pub second_stated : (ws : List (List ℕ)) → stated 1 (drop 1 ws) ≡ stated 2 ws
second_stated ws = ap (λ w. meant 0 (number_of w)) (get_or-drop 1 ws 0 [])

-- one curriculum of those that are left
pub one_curriculum : (ws : List (List ℕ)) (n count : ℕ) → n < count → curricula_len (count - n) ws ≡ 2 + stated 2 ws + curricula_len (count - (n + 1)) (drop (2 + stated 2 ws) ws)
unfolding curricula_len
one_curriculum ws n count less =
    let next : count - n ≡ suc (count - (n + 1)) = omega (arith, less) in
    rw next refl

pub no_curriculum : (ws : List (List ℕ)) (n count : ℕ) → n ≡ count → curricula_len (count - n) ws ≡ 0
unfolding curricula_len
no_curriculum ws n count same =
    let none : count - n ≡ 0 = omega (arith, same) in
    rw none refl

-- one curriculum of those that are left, for a place in it, or after it
pub place_in_curriculum : (ws : List (List ℕ)) (n count k : ℕ) → n < count → k < 2 + stated 2 ws → curriculum_in (count - n) n k ws ≡ (n, k)
unfolding curriculum_in
place_in_curriculum ws n count k less within =
    let next : count - n ≡ suc (count - (n + 1)) = omega (arith, less) in
    let is : nat_lt k (2 + stated 2 ws) ≡ true = grind (arith, nat_tests) in
    rw (next, is) refl

pub place_after_curriculum : (ws : List (List ℕ)) (n count k : ℕ) → n < count → 2 + stated 2 ws ≤ k → curriculum_in (count - n) n k ws ≡ curriculum_in (count - (n + 1)) (n + 1) (k - (2 + stated 2 ws)) (drop (2 + stated 2 ws) ws)
unfolding curriculum_in
place_after_curriculum ws n count k less after =
    let next : count - n ≡ suc (count - (n + 1)) = omega (arith, less) in
    let is : nat_lt k (2 + stated 2 ws) ≡ false = grind (arith, nat_tests) in
    rw (next, is) refl

pub no_place_in_curriculum : (ws : List (List ℕ)) (n count k : ℕ) → n ≡ count → curriculum_in (count - n) n k ws ≡ (n, k)
unfolding curriculum_in
no_place_in_curriculum ws n count k same =
    let none : count - n ≡ 0 = omega (arith, same) in
    rw none refl
