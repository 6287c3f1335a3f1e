-- Comparing bytes: when they are equal, and when they differ.
use Rattle.std.proofs.Common.{◌≡◌, ℕ, ◌+◌, ◌<◌, ◌≤◌, List, [], ◌∷◌, ◌++◌, Bool, true, false, length, take, get_or, refl, sym, ap, ◌∙◌, arith}
use Rattle.std.specs.Str.{bytes_eq}
use Rattle.std.proofs.lemmas.Grind.{common_steps}
use Rattle.std.proofs.lemmas.List.{take_more}
use Rattle.ctt_problem.proofs.ListLaws.{bytes_sound, same_bytes}

differ : (xs ys : List ℕ) → ¬ (xs ≡ ys) → false ≡ bytes_eq xs ys
differ xs ys not = by (bytes_eq xs ys) refl
  where
    by : (b : Bool) → bytes_eq xs ys ≡ b → false ≡ bytes_eq xs ys
    by true e = absurd (not (bytes_sound xs ys e))
    by false e = sym e

-- bytes of another length differ
pub other_length : (xs ys : List ℕ) → ¬ (length xs ≡ length ys) → false ≡ bytes_eq xs ys
other_length xs ys not = differ xs ys (λ e. not (ap length e))

-- bytes with another byte at one index differ
pub other_at : (k : ℕ) (xs ys : List ℕ) → ¬ (get_or xs k 0 ≡ get_or ys k 0) → false ≡ bytes_eq xs ys
other_at k xs ys not = differ xs ys (λ e. not (ap (λ zs. get_or zs k 0) e))

-- one more equal byte
pub same_more : (k : ℕ) (xs ys : List ℕ) → take k xs ≡ take k ys → k < length xs → k < length ys → get_or xs k 0 ≡ get_or ys k 0 → take (k + 1) xs ≡ take (k + 1) ys
same_more k xs ys same lx ly e =
    let front : take k xs ++ get_or xs k 0 ∷ [] ≡ take k ys ++ get_or ys k 0 ∷ [] = rw (same, e) refl in
    take_more xs k 0 lx ∙ front ∙ sym (take_more ys k 0 ly)

-- all bytes are equal
pub same_all : (k : ℕ) (xs ys : List ℕ) → take k xs ≡ take k ys → length xs ≡ length ys → length ys ≤ k → true ≡ bytes_eq xs ys
same_all k xs ys same len le =
    let whole_xs : take k xs ≡ xs = grind (arith, common_steps, len, le) in
    let whole_ys : take k ys ≡ ys = grind (arith, common_steps, le) in
    let all : xs ≡ ys = sym whole_xs ∙ same ∙ whole_ys in
    sym (rw all (same_bytes ys))

pub ruleset compared = (other_length, other_at, same_all, same_more)
