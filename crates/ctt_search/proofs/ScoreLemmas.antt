-- Scores: of one more slot or course, and of the start itself.
use Rattle.std.proofs.Common.{◌≡◌, ℕ, ◌+◌, Bool, true, false, cond, not, ◌&&◌, ◌||◌, ◌==◌, List, Option, Some, None, is_some, refl, ◌∙◌, sym, ap, arith}
use Rattle.std.specs.Prelude.{nat_lt, nat_le}
use Rattle.std.specs.Option.{option_eq}
use Rattle.std.proofs.lemmas.Bool.{eq-eqb, le-ltb, le-leb}
use Rattle.ctt_problem.specs.Lists.{sum_below, count_below}
use Rattle.ctt_problem.specs.Problem.{Problem, course_count, slot_count}
use Rattle.ctt_problem.specs.declared.placed.Placed.{Placed}
use Rattle.ctt_rules.proofs.SumLemmas.{sum_below_more, sum_below_zero}
use Rattle.ctt_board.specs.Changes.{room_at}
use Rattle.ctt_search.specs.Scores.{is_new, new_count, changes_of, changes, first, last, is_at_most}
use Rattle.ctt_search.specs.declared.aim.Aim.{Aim}
use Rattle.ctt_search.specs.declared.score.Score.{Score}

-- what a test adds to a count
abbrev number : Bool → ℕ
number b = cond b 1 0

-- a number that passes the test is counted
pub counted : (p : ℕ → Bool) (n m k : ℕ) → m ≡ n → p m ≡ true → k ≡ count_below p n → k + 1 ≡ count_below p (n + 1)
counted p n m k same passes so_far =
    let here : ◌≡◌ {A = ℕ} (number (p n)) 1 = ap (λ x. number (p x)) (sym same) ∙ ap number passes in
    omega (arith, so_far, here, sum_below_more (λ x. number (p x)) n)

-- one that does not is not
pub not_counted : (p : ℕ → Bool) (n m k : ℕ) → m ≡ n → p m ≡ false → k ≡ count_below p n → k ≡ count_below p (n + 1)
not_counted p n m k same fails so_far =
    let here : ◌≡◌ {A = ℕ} (number (p n)) 0 = ap (λ x. number (p x)) (sym same) ∙ ap number fails in
    omega (arith, so_far, here, sum_below_more (λ x. number (p x)) n)

-- a sum with one more number
pub summed : (f : ℕ → ℕ) (n m k x : ℕ) → m ≡ n → x ≡ f m → k ≡ sum_below f n → k + x ≡ sum_below f (n + 1)
summed f n m k x same is so_far = let here : f m ≡ f n = ap f same in omega (arith, so_far, is, here, sum_below_more f n)

not_other : (o : Option ℕ) → (is_some o && not (option_eq (λ (a b : ℕ). a == b) o o)) ≡ false
not_other None = refl
not_other (Some r) = rw (eq-eqb r r refl) refl

none_new : (i : Problem) (t : List Placed) (c : ℕ) → new_count i t t c ≡ 0
none_new i t c = sum_below_zero (λ s. cond (is_new t t c s) 1 0) (slot_count i) (λ s lt. ap (λ b. cond b 1 0) (not_other (room_at c s t)))

-- the start changes nothing
pub no_changes : (i : Problem) (t : List Placed) → changes i t t ≡ 0
no_changes i t = sum_below_zero (changes_of i t t) (course_count i) (λ c lt. let none = none_new i t c in omega (arith, none))

-- a score is at most itself
pub at_most_itself : (aim : Aim) (a : Score) → is_at_most aim a a ≡ true
at_most_itself aim a =
    let m : ℕ = a.missing in
    let f : ℕ = first aim a in
    let l : ℕ = last aim a in
    by m f l
  where
    by : (m f l : ℕ) → (nat_lt m m || (m == m && (nat_lt f f || (f == f && nat_le l l)))) ≡ true
    by m f l = rw (le-ltb m m (omega arith), eq-eqb m m refl, le-ltb f f (omega arith), eq-eqb f f refl, le-leb l l (omega arith)) refl
