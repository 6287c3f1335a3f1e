-- Courses that occur together in a list, and therefore clash.
use Rattle.std.proofs.Common.{◌≡◌, ℕ, zero, suc, ◌<◌, Bool, true, false, not, cond, ◌&&◌, ◌||◌, ◌==◌, nat_lt, List, [], ◌∷◌, length, map, get_or, refl, ◌∙◌, sym, ap, ap₂, subst, arith, inl, inr}
use Rattle.std.specs.List.{list_any, AllByRecursion as Each}
use Rattle.std.proofs.lemmas.List.{length-map, get_or-map}
use Rattle.std.proofs.lemmas.List.Folds.{list_any-append, list_any_at, list_any_none}
use Rattle.std.proofs.lemmas.Bool.{cases_eq, cases_lt, lt-ltb, le-ltb, eq-eqb, ne_eqb, eqb-true, and_parts}
use Rattle.ctt_problem.specs.Lists.{below, has}
use Rattle.ctt_problem.specs.BitRows.{BitTable, is_marked_in, HasSize}
use Rattle.ctt_problem.specs.Instance.{AreClashes}
use Rattle.ctt_problem.specs.Problem.{Problem, IsProblem, IsCourseFacts, AreMembers, course_of, course_count, teacher_count, mates, clash}
use Rattle.ctt_problem.specs.Taught.{AreTaught}
use Rattle.ctt_problem.proofs.TableLemmas.{bool_case, same_element, no_mates}
use Rattle.ctt_problem.proofs.TimetableLemmas.{Each-from_index, Each-at, Each-map}
use Rattle.ctt_problem.proofs.NumberListLemmas.{below_fit}
use Rattle.ctt_problem.proofs.ListLaws.{any_mapped}

-- which numbers are in the list of those that pass
pub has_below : (p : ℕ → Bool) (m n : ℕ) → has n (below p m) ≡ (nat_lt n m && p n)
has_below p zero n = sym (ap (λ b. b && p n) (le-ltb n zero (omega arith)))
has_below p (suc m) n = list_any-append (λ x. x == n) (below p m) (cond (p m) (m ∷ []) []) ∙ ap₂ (λ a b. a || b) (has_below p m n) (last (p m)) ∙ elim (cases_eq m n) [
  | inl same ↦ rw (eq-eqb m n same, le-ltb n m (omega (arith, same)), lt-ltb n (suc m) (omega (arith, same))) (and_true (p m) ∙ ap p same)
  | inr other ↦ rw (ne_eqb m n other) (none (nat_lt n m && p n) (p m) ∙ ap (λ b. b && p n) (elim (cases_lt n m) [
    | inl less ↦ rw (lt-ltb n m less, lt-ltb n (suc m) (omega (arith, less))) refl
    | inr past ↦ rw (le-ltb n m past, le-ltb n (suc m) (omega (arith, past, other))) refl
  ]))
]
  where
    last : (b : Bool) → list_any (λ x. x == n) (cond b (m ∷ []) []) ≡ (b && m == n)
    last true = or_false (m == n)
      where
        or_false : (b : Bool) → (b || false) ≡ b
        or_false true = refl
        or_false false = refl
    last false = refl

    and_true : (b : Bool) → (b && true) ≡ b
    and_true true = refl
    and_true false = refl

    none : (a b : Bool) → (a || (b && false)) ≡ a
    none true b = refl
    none false true = refl
    none false false = refl

-- two courses are in the list of one teacher if they have the same teacher
pub taught_together : (i : Problem) (lists : List (List ℕ)) → AreTaught i lists → ((c : ℕ) → c < course_count i → (course_of i c).teacher < teacher_count i)
    → (a b : ℕ) → a < course_count i → list_any (λ q. has a q && has b q) lists ≡ (nat_lt b (course_count i) && (course_of i a).teacher == (course_of i b).teacher)
taught_together i lists are known a b less = bool_case _ (nat_lt b (course_count i) && (course_of i a).teacher == (course_of i b).teacher)
    (λ is. rw is (list_any_at (λ q. has a q && has b q) lists (course_of i a).teacher [] within (both (course_of i a).teacher within ∙ yes is)))
    (λ isnt. rw isnt (list_any_none (λ q. has a q && has b q) lists (λ k d lt. ap (λ q. has a q && has b q) (same_element lists k d [] lt) ∙ both k lt ∙ no k isnt)))
  where
    teaches : ℕ → ℕ → Bool
    teaches k c = (course_of i c).teacher == k

    within : (course_of i a).teacher < length lists
    within = subst (λ m. (course_of i a).teacher < m) (sym are.size) (known a less)

    both : (k : ℕ) → k < length lists → (has a (get_or lists k []) && has b (get_or lists k [])) ≡ ((course_of i a).teacher == k && (nat_lt b (course_count i) && (course_of i b).teacher == k))
    both k lt =
        ap (λ q. has a q && has b q) (are.list k (subst (λ m. k < m) are.size lt))
        ∙ ap₂ (λ x y. x && y) (has_below (teaches k) (course_count i) a ∙ ap (λ t. t && (course_of i a).teacher == k) (lt-ltb a (course_count i) less)) (has_below (teaches k) (course_count i) b)

    yes : (nat_lt b (course_count i) && (course_of i a).teacher == (course_of i b).teacher) ≡ true → ((course_of i a).teacher == (course_of i a).teacher && (nat_lt b (course_count i) && (course_of i b).teacher == (course_of i a).teacher)) ≡ true
    yes is =
        let parts = and_parts (nat_lt b (course_count i)) ((course_of i a).teacher == (course_of i b).teacher) is in
        rw (eq-eqb (course_of i a).teacher (course_of i a).teacher refl, parts.0, eq-eqb (course_of i b).teacher (course_of i a).teacher (sym (eqb-true (course_of i a).teacher (course_of i b).teacher parts.1))) refl

    turned : (x y : ℕ) → (x == y) ≡ (y == x)
    turned x y = elim (cases_eq x y) [
      | inl same ↦ rw (eq-eqb x y same, eq-eqb y x (sym same)) refl
      | inr other ↦ rw (ne_eqb x y other, ne_eqb y x (λ e. other (sym e))) refl
    ]

    no : (k : ℕ) → (nat_lt b (course_count i) && (course_of i a).teacher == (course_of i b).teacher) ≡ false → ((course_of i a).teacher == k && (nat_lt b (course_count i) && (course_of i b).teacher == k)) ≡ false
    no k isnt = elim (cases_eq (course_of i a).teacher k) [
      | inl same ↦ rw (eq-eqb (course_of i a).teacher k same) (ap (λ m. nat_lt b (course_count i) && (course_of i b).teacher == m) (sym same) ∙ ap (λ x. nat_lt b (course_count i) && x) (turned (course_of i b).teacher (course_of i a).teacher) ∙ isnt)
      | inr other ↦ rw (ne_eqb (course_of i a).teacher k other) refl
    ]

-- the numbers in these lists are courses
pub taught_known : {X : Type 0} (items : X → List ℕ) (i : Problem) (lists : List X) → AreTaught i (map items lists) → Each (λ q. Each (λ c. c < course_count i) (items q)) lists
taught_known items i lists are = Each-from_index (λ q. Each (λ c. c < course_count i) (items q)) lists (λ k d lt.
    let many : k < teacher_count i = omega (arith, lt, are.size, length-map lists items) in
    let list = sym (get_or-map items lists k d [] lt) ∙ are.list k many in
    subst (Each (λ c. c < course_count i)) (sym list) (below_fit (λ c. (course_of i c).teacher == k) (course_count i)))

-- the marks of both groups are the clashes
pub are_clashes : {X : Type 0} (items : X → List ℕ) (i : Problem) (rows : BitTable) (taught curricula : List X) → IsProblem i → AreTaught i (map items taught) → i.curricula ≡ map items curricula
    → HasSize rows (course_count i) (course_count i)
    → ((c d : ℕ) → c < course_count i → is_marked_in rows c d ≡ (not (c == d) && (list_any (λ q. has c (items q) && has d (items q)) taught || list_any (λ q. has c (items q) && has d (items q)) curricula)))
    → AreClashes i rows
are_clashes items i rows taught curricula problem are same size marks = record {
  size = size;
  marks = λ a b la. marks a b la
      ∙ ap₂ (λ t m. not (a == b) && (t || m)) (sym (any_mapped (λ q. has a q && has b q) items taught) ∙ taught_together i (map items taught) are known a b la) (sym (any_mapped (λ q. has a q && has b q) items curricula) ∙ ap (list_any (λ q. has a q && has b q)) (sym same))
      ∙ within a b;
}
  where
    known : (c : ℕ) → c < course_count i → (course_of i c).teacher < teacher_count i
    known c lt = (Each-at (IsCourseFacts (teacher_count i)) i.courses problem.courses c _ lt).0

    by : (x y m : Bool) → (x && ((true && y) || m)) ≡ (true && (x && (y || m)))
    by true y m = refl
    by false y m = refl

    none : (x : Bool) → (x && false) ≡ false
    none true = refl
    none false = refl

    within : (a b : ℕ) → (not (a == b) && ((nat_lt b (course_count i) && (course_of i a).teacher == (course_of i b).teacher) || mates i a b)) ≡ (nat_lt b (course_count i) && clash i a b)
    within a b = elim (cases_lt b (course_count i)) [
      | inl lt ↦ rw (lt-ltb b (course_count i) lt) (by (not (a == b)) ((course_of i a).teacher == (course_of i b).teacher) (mates i a b))
      | inr past ↦ (
          let members = Each-map (AreMembers (course_count i)) (Each (λ m. m < course_count i)) (λ q h. h.0) i.curricula problem.curricula in
          rw (le-ltb b (course_count i) past, no_mates (λ q. q) (course_count i) a b past i.curricula members) (none (not (a == b))))
    ]

-- the members of each curriculum are courses
pub members_known : {X : Type 0} (items : X → List ℕ) (n : ℕ) (qs : List X) → Each (AreMembers n) (map items qs) → Each (λ q. Each (λ d. d < n) (items q)) qs
members_known items n [] h = tt
members_known items n (q ∷ qs) h = (h.0.0, members_known items n qs h.1)
