-- The curricula of each course.
use Rattle.std.proofs.Common.{◌≡◌, ℕ, zero, suc, ◌+◌, ◌<◌, ◌≤◌, Bool, true, false, cond, ◌||◌, ◌==◌, List, [], ◌∷◌, ◌++◌, length, take, get_or, append-nil, refl, ◌∙◌, sym, ap, ap₂, arith, inl, inr}
use Rattle.std.specs.List.{AllByRecursion as Each}
use Rattle.std.proofs.lemmas.List.Folds.{list_any_more}
use Rattle.std.proofs.lemmas.Bool.Decides.{nat_tests}
use Rattle.std.proofs.lemmas.Bool.{cases_Bool, eqb-true}
use Rattle.ctt_problem.specs.Lists.{has, Pairwise}
use Rattle.ctt_problem.specs.Problem.{Problem, IsProblem, AreMembers, members, course_count, curriculum_count}
use Rattle.ctt_problem.specs.NumberLists.{AddsNumber}
use Rattle.ctt_problem.specs.Belonging.{curricula_of}
use Rattle.ctt_problem.proofs.NumberListLemmas.{below_fit, below_few}
use Rattle.ctt_problem.proofs.TimetableLemmas.{Each-at}

-- one more course, which did not pass before
pub more_added : (old mid new : List (List ℕ)) (q : ℕ) (p r s : ℕ → Bool) → AddsNumber old mid q p → AddsNumber mid new q r → ((c : ℕ) → s c ≡ (p c || r c)) → ((c : ℕ) → p c ≡ true → r c ≡ false) → AddsNumber old new q s
more_added old mid new q p r s h k same apart = record {
  size = k.size ∙ h.size;
  lists = λ c lt. k.lists c (omega (arith, lt, h.size)) ∙ ap (λ xs. xs ++ cond (r c) (q ∷ []) []) (h.lists c lt)
      ∙ by (get_or old c []) (p c) (r c) (apart c) ∙ ap (λ b. get_or old c [] ++ cond b (q ∷ []) []) (sym (same c));
}
  where
    by : (xs : List ℕ) (a b : Bool) → (a ≡ true → b ≡ false) → ((xs ++ cond a (q ∷ []) []) ++ cond b (q ∷ []) []) ≡ xs ++ cond (a || b) (q ∷ []) []
    by xs true true e = let z : true ≡ false = e refl in cc
    by xs true false e = append-nil (xs ++ q ∷ [])
    by xs false b e = ap (λ ys. ys ++ cond b (q ∷ []) []) (append-nil xs)

-- a member that occurs once is not among the earlier ones
pub has_more : (c : ℕ) (ms : List ℕ) (k m : ℕ) → k < length ms → m ≡ get_or ms k m → has c (take (k + 1) ms) ≡ (has c (take k ms) || (m == c))
has_more c ms k m lt is = list_any_more (λ x. x == c) ms k m lt ∙ ap (λ b. has c (take k ms) || b) (ap (λ x. x == c) (sym is))

pub not_before : (c : ℕ) (ms : List ℕ) (k m : ℕ) → k < length ms → m ≡ get_or ms k m → Pairwise (λ a b. (a == b) ≡ false) ms → has c (take k ms) ≡ true → (m == c) ≡ false
not_before c [] k m lt is h e = absurd (omega (arith, lt))
not_before c (x ∷ ms) zero m lt is h e = cc
not_before c (x ∷ ms) (suc k) m lt is h e = elim (cases_Bool (x == c)) [
  | inl y ↦ (
      let other : (x == get_or ms k m) ≡ false = Each-at (λ b. (x == b) ≡ false) ms h.0 k m (omega (arith, lt)) in
      let same : x ≡ c = eqb-true x c y in
      turn m c ∙ ap₂ (λ a b. a == b) (sym same) is ∙ other)
  | inr n ↦ not_before c ms k m (omega (arith, lt)) is h.1 (ap (λ b. b || has c (take k ms)) (sym n) ∙ e)
]
  where
    turn : (a b : ℕ) → (a == b) ≡ (b == a)
    turn a b = grind (arith, nat_tests)

-- the curricula of a course are some of the curricula
pub curricula_fit : (i : Problem) (c : ℕ) (qs : List ℕ) → qs ≡ curricula_of i c → Each (λ q. q < curriculum_count i) qs
curricula_fit i c qs e = rw e (below_fit (λ q. has c (members i q)) (curriculum_count i))

pub curricula_few : (i : Problem) (c : ℕ) (qs : List ℕ) → qs ≡ curricula_of i c → IsProblem i → length qs ≤ 20000
curricula_few i c qs e p = omega (arith, ap length e, below_few (λ q. has c (members i q)) (curriculum_count i), p.curricula_few)

-- the members of a curriculum are known courses, each once
pub are_members : (i : Problem) (q : ℕ) (ms : List ℕ) → ms ≡ members i q → IsProblem i → q < curriculum_count i → AreMembers (course_count i) ms
are_members i q ms e p lt = rw e (Each-at (AreMembers (course_count i)) i.curricula p.curricula q [] lt)
