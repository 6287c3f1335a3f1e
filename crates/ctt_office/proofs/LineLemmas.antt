-- Lines at the beginning of bytes.
use Rattle.std.proofs.Common.{◌≡◌, ℕ, suc, ◌+◌, ◌-◌, ◌<◌, ◌==◌, Bool, true, false, List, [], ◌∷◌, ◌++◌, length, take, drop, position, Option, Some, None, refl, sym, ap, subst, ◌∙◌, arith, not}
use Rattle.std.specs.List.{position_or_len}
use Rattle.std.specs.Prelude.{OnSome}
use Rattle.std.proofs.lemmas.Bool.{eqb-true}
use Rattle.std.proofs.lemmas.Grind.{common_steps}
use Rattle.std.proofs.lemmas.List.{drop-drop}
use Rattle.std.proofs.lemmas.List.Sums.{prefix_len-le-length}
use Rattle.ctt_log.specs.Recovery.{HasNoNewline}
use Rattle.ctt_office.specs.Lines.{HasLine, IsLineThenRest}

none_from : (xs : List ℕ) → position_or_len (λ b. b == 10) xs ≡ length xs → HasNoNewline xs
none_from [] h = tt
none_from (x ∷ xs) h = by (x == 10) refl (none_from xs)
  where
    by : (b : Bool) → (x == 10) ≡ b → (position_or_len (λ b. b == 10) xs ≡ length xs → HasNoNewline xs) → HasNoNewline (x ∷ xs)
    by true e more = let first : position_or_len (λ b. b == 10) (x ∷ xs) ≡ 0 = rw e refl in absurd (omega (arith, h, first))
    by false e more = let first : position_or_len (λ b. b == 10) (x ∷ xs) ≡ 1 + position_or_len (λ b. b == 10) xs = rw e refl in (e, more (omega (arith, h, first)))

-- if no newline is found there is none
pub none_ends : (xs : List ℕ) → position (λ b. b == 10) xs ≡ None → HasNoNewline xs
none_ends xs h = none_from xs (grind (arith, common_steps, prefix_len-le-length (λ b. not (b == 10)) xs))

cut_at : (xs : List ℕ) (n : ℕ) → position_or_len (λ b. b == 10) xs ≡ n → n < length xs → IsLineThenRest (take n xs) (drop (suc n) xs) xs
cut_at [] n h lt = absurd (omega (arith, lt))
cut_at (x ∷ xs) n h lt = by (x == 10) refl (cut_at xs (position_or_len (λ b. b == 10) xs) refl)
  where
    by : (b : Bool) → (x == 10) ≡ b
        → (position_or_len (λ b. b == 10) xs < length xs → IsLineThenRest (take (position_or_len (λ b. b == 10) xs) xs) (drop (suc (position_or_len (λ b. b == 10) xs)) xs) xs)
        → IsLineThenRest (take n (x ∷ xs)) (drop (suc n) (x ∷ xs)) (x ∷ xs)
    by true e more =
        let first : position_or_len (λ b. b == 10) (x ∷ xs) ≡ 0 = rw e refl in
        let at : 0 ≡ n = sym first ∙ h in
        subst (λ k. IsLineThenRest (take k (x ∷ xs)) (drop (suc k) (x ∷ xs)) (x ∷ xs)) at (tt, ap (λ y. y ∷ xs) (eqb-true x 10 e))
    by false e more =
        let first : position_or_len (λ b. b == 10) (x ∷ xs) ≡ 1 + position_or_len (λ b. b == 10) xs = rw e refl in
        let at : suc (position_or_len (λ b. b == 10) xs) ≡ n = omega (arith, first, h) in
        let rest = more (omega (arith, lt, at)) in
        subst (λ k. IsLineThenRest (take k (x ∷ xs)) (drop (suc k) (x ∷ xs)) (x ∷ xs)) at ((e, rest.0), ap (λ ys. x ∷ ys) rest.1)

-- if a newline is found, the line is what precedes it
pub cut : (xs : List ℕ) (n : ℕ) → position (λ b. b == 10) xs ≡ Some n → IsLineThenRest (take n xs) (drop (n + 1) xs) xs
cut xs n h =
    let more : suc n ≡ n + 1 = omega arith in
    subst (λ k. IsLineThenRest (take n xs) (drop k xs) xs) more (cut_at xs n (grind (arith, common_steps)) (grind (arith, common_steps)))

-- a line after the first n bytes
pub cut_behind : (xs : List ℕ) (g n : ℕ) → IsLineThenRest (take n (drop g xs)) (drop (n + 1) (drop g xs)) (drop g xs)
    → IsLineThenRest (take (g + n - g) (drop g xs)) (drop (g + n + 1) xs) (drop g xs)
cut_behind xs g n is =
    let same : n ≡ g + n - g = omega arith in
    let rest : drop (n + 1) (drop g xs) ≡ drop (g + n + 1) xs = drop-drop (n + 1) g xs ∙ ap (λ k. drop k xs) (omega arith) in
    subst (λ k. IsLineThenRest (take k (drop g xs)) (drop (g + n + 1) xs) (drop g xs)) same (subst (λ r. IsLineThenRest (take n (drop g xs)) r (drop g xs)) rest is)

-- bytes that begin with such a line contain a newline
has_line : (line rest bytes : List ℕ) → IsLineThenRest line rest bytes → HasLine bytes
has_line line rest bytes is none = ends line (subst HasNoNewline is.1 none)
  where
    ends : (xs : List ℕ) → HasNoNewline (xs ++ 10 ∷ rest) → ⊥
    ends [] unended = cc
    ends (x ∷ xs) unended = ends xs unended.1

pub has_end : (xs : List ℕ) (end : Option ℕ) → end ≡ position (λ b. b == 10) xs → OnSome end (HasLine xs)
has_end xs None is = tt
has_end xs (Some n) is = has_line (take n xs) (drop (n + 1) xs) xs (cut xs n (sym is))
