-- The curriculum mates of a course, by its curricula.
use Rattle.std.proofs.Common.{◌≡◌, ℕ, zero, suc, ◌<◌, ◌≤◌, Bool, true, false, cond, ◌&&◌, ◌||◌, List, [], ◌∷◌, length, get_or, take, add-one, refl, ◌∙◌, sym, ap, ap₂, subst, arith}
use Rattle.std.specs.List.{list_any, AllByRecursion as Each}
use Rattle.std.proofs.lemmas.List.{take_all}
use Rattle.std.proofs.lemmas.List.Folds.{list_any_more, list_any-append}
use Rattle.ctt_problem.specs.Belonging.{curricula_of}
use Rattle.ctt_problem.specs.Lists.{below, has}
use Rattle.ctt_problem.specs.Problem.{Problem, curriculum_count, members, mates}
use Rattle.ctt_problem.proofs.TimetableLemmas.{Each-at}

-- an element passes both tests: of those that pass the first, one passes the second
any_of : {X : Type 0} (p q : X → Bool) (d : X) (xs : List X) (n : ℕ) → n ≤ length xs → list_any (λ x. p x && q x) (take n xs) ≡ list_any (λ k. q (get_or xs k d)) (below (λ k. p (get_or xs k d)) n)
any_of p q d xs zero h = refl
any_of p q d xs (suc n) h =
    let more : list_any (λ x. p x && q x) (take (suc n) xs) ≡ (list_any (λ x. p x && q x) (take n xs) || (p (get_or xs n d) && q (get_or xs n d))) = rw add-one at (list_any_more (λ x. p x && q x) xs n d (omega (arith, h))) in
    more
    ∙ ap₂ (λ a b. a || b) (any_of p q d xs n (omega (arith, h))) (last (p (get_or xs n d)))
    ∙ sym (list_any-append (λ k. q (get_or xs k d)) (below (λ k. p (get_or xs k d)) n) (cond (p (get_or xs n d)) (n ∷ []) []))
  where
    last : (b : Bool) → (b && q (get_or xs n d)) ≡ list_any (λ k. q (get_or xs k d)) (cond b (n ∷ []) [])
    last true = or_nothing (q (get_or xs n d))
      where
        or_nothing : (b : Bool) → b ≡ (b || false)
        or_nothing true = refl
        or_nothing false = refl
    last false = refl

pub mates_of : (i : Problem) (c d : ℕ) → mates i c d ≡ list_any (λ q. has d (members i q)) (curricula_of i c)
mates_of i c d =
    ap (list_any (λ q. has c q && has d q)) (sym (take_all (curriculum_count i) i.curricula (omega arith)))
    ∙ any_of (λ q. has c q) (λ q. has d q) [] i.curricula (curriculum_count i) (omega arith)

-- an element of a list of numbers below n is below n
pub one_fits : (n k q : ℕ) (qs : List ℕ) → Each (λ r. r < n) qs → k < length qs → q ≡ get_or qs k q → q < n
one_fits n k q qs h lt is = subst (λ r. r < n) (sym is) (Each-at (λ r. r < n) qs h k q lt)
