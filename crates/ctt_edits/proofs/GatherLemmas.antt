-- The lectures of the courses that pass, gathered course by course.
use Rattle.std.proofs.Common.{◌≡◌, ℕ, ◌+◌, ◌<◌, ◌≤◌, Bool, true, false, ltb, ◌&&◌, List, [], ◌∷◌, ◌++◌, Some, None, refl, ◌∙◌, sym, ap, ap₂, arith, inl, inr}
use Rattle.std.specs.List.{filter, AllByRecursion as Each}
use Rattle.std.proofs.lemmas.Bool.{cases_Bool, cases_lt, cases_eq, lt-ltb, le-ltb, eq-eqb, ne_eqb}
use Rattle.std.proofs.lemmas.Bool.Decides.{nat_tests}
use Rattle.ctt_problem.specs.Marks.{IsLeast}
use Rattle.ctt_problem.specs.Timetable.{before, Ascending, course_row}
use Rattle.ctt_problem.specs.declared.placed.Placed.{Placed}
use Rattle.ctt_rules.proofs.ListLemmas.{filter_none}
use Rattle.ctt_problem.proofs.TimetableLemmas.{Each-map}
use Rattle.ctt_edits.specs.RowSets.{between}

-- those of them whose courses are below n
abbrev pub part_below : (ℕ → Bool) → ℕ → List Placed → List Placed
part_below p n t = filter (λ (l : Placed). ltb l.course n && p l.course) t

same_filter : (p q : Placed → Bool) (t : List Placed) → ((l : Placed) → p l ≡ q l) → filter p t ≡ filter q t
same_filter p q [] h = refl
same_filter p q (x ∷ xs) h = elim (cases_Bool (q x)) [
  | inl y ↦ rw (h x, y) (ap (λ ls. x ∷ ls) (same_filter p q xs h))
  | inr n ↦ rw (h x, n) (same_filter p q xs h)
]

-- no number from n on, and below m, passes
part_skip : (p : ℕ → Bool) (n m : ℕ) (t : List Placed) → n ≤ m → ((k : ℕ) → n ≤ k → k < m → p k ≡ false) → part_below p m t ≡ part_below p n t
part_skip p n m t le none = same_filter (λ (l : Placed). ltb l.course m && p l.course) (λ (l : Placed). ltb l.course n && p l.course) t (λ l. each l.course)
  where
    each : (k : ℕ) → (ltb k m && p k) ≡ (ltb k n && p k)
    each k = elim (cases_lt k n) [
      | inl less ↦ rw (lt-ltb k n less, lt-ltb k m (omega (arith, less, le))) refl
      | inr past ↦ elim (cases_lt k m) [
        | inl inside ↦ rw (lt-ltb k m inside, le-ltb k n past, none k past inside) refl
        | inr out ↦ rw (le-ltb k m out, le-ltb k n past) refl
      ]
    ]

-- no lecture of a list in order that begins past a course is of this course
behind : (x y : Placed) (n : ℕ) → before x y ≡ true → n ≤ x.course → n ≤ y.course
behind x y n h le = grind (arith, nat_tests)

none_below : (p : ℕ → Bool) (n : ℕ) (t : List Placed) → Each (λ (l : Placed). n ≤ l.course) t → part_below p n t ≡ []
none_below p n t h = filter_none (λ (l : Placed). ltb l.course n && p l.course) t (Each-map (λ (l : Placed). n ≤ l.course) (λ (l : Placed). (ltb l.course n && p l.course) ≡ false) (λ l le. rw (le-ltb l.course n le) refl) t h)

-- one more course
part_one : (p : ℕ → Bool) (c : ℕ) (t : List Placed) → Ascending t → p c ≡ true → part_below p (c + 1) t ≡ part_below p c t ++ course_row c t
part_one p c [] h y = refl
part_one p c (x ∷ xs) h y = elim (cases_lt x.course c) [
  | inl less ↦ elim (cases_Bool (p x.course)) [
    | inl passes ↦ rw (lt-ltb x.course (c + 1) (omega (arith, less)), lt-ltb x.course c less, passes, ne_eqb x.course c (λ e. omega (arith, less, e))) (ap (λ ls. x ∷ ls) (part_one p c xs h.1 y))
    | inr not_it ↦ rw (lt-ltb x.course (c + 1) (omega (arith, less)), lt-ltb x.course c less, not_it, ne_eqb x.course c (λ e. omega (arith, less, e))) (part_one p c xs h.1 y)
  ]
  | inr past ↦ (
      let rest : Each (λ (l : Placed). c ≤ l.course) xs = Each-map (λ y. before x y ≡ true) (λ (l : Placed). c ≤ l.course) (λ l b. behind x l c b past) xs h.0 in
      let here : part_below p c (x ∷ xs) ≡ [] = none_below p c (x ∷ xs) (past, rest) in
      rw here (own past rest))
]
  where
    -- past the course, what is below the next one is the row
    only : (ls : List Placed) → Each (λ (l : Placed). c ≤ l.course) ls → part_below p (c + 1) ls ≡ course_row c ls
    only [] e = refl
    only (l ∷ ls) e = elim (cases_eq l.course c) [
      | inl same ↦ rw (lt-ltb l.course (c + 1) (omega (arith, same)), ap p same ∙ y, eq-eqb l.course c same) (ap (λ ks. l ∷ ks) (only ls e.1))
      | inr other ↦ rw (le-ltb l.course (c + 1) (omega (arith, e.0, other)), ne_eqb l.course c other) (only ls e.1)
    ]

    own : c ≤ x.course → Each (λ (l : Placed). c ≤ l.course) xs → part_below p (c + 1) (x ∷ xs) ≡ course_row c (x ∷ xs)
    own past rest = only (x ∷ xs) (past, rest)

part_whole : (p : ℕ → Bool) (n : ℕ) (t : List Placed) → Each (λ (l : Placed). l.course < n) t → part_below p n t ≡ filter (λ (l : Placed). p l.course) t
part_whole p n [] h = refl
part_whole p n (x ∷ xs) h = elim (cases_Bool (p x.course)) [
  | inl y ↦ rw (lt-ltb x.course n h.0, y) (ap (λ ls. x ∷ ls) (part_whole p n xs h.1))
  | inr k ↦ rw (lt-ltb x.course n h.0, k) (part_whole p n xs h.1)
]

pub inside : (p : ℕ → Bool) (from end k : ℕ) → between from end p k ≡ false → from ≤ k → k < end → p k ≡ false
inside p from end k e le lt = grind (arith, nat_tests)

pub found : (p : ℕ → Bool) (from end k : ℕ) → between from end p k ≡ true → (from ≤ k) × (k < end) × (p k ≡ true)
found p from end k e = (grind (arith, nat_tests), grind (arith, nat_tests), grind (arith, nat_tests))

-- the next course that passes
pub part_more : (p : ℕ → Bool) (from end c : ℕ) (t so_far row now : List Placed) → Ascending t → IsLeast (between from end p) (Some c) → so_far ≡ part_below p from t → row ≡ course_row c t → now ≡ so_far ++ row → now ≡ part_below p (c + 1) t
part_more p from end c t so_far row now h least s r n =
    let f = found p from end c least.0 in
    n ∙ ap₂ (λ a b. a ++ b) (s ∙ sym (part_skip p from c t f.0 (λ k le lt. inside p from end k (least.1 k lt) le (omega (arith, lt, f.1))))) r
    ∙ sym (part_one p c t h f.2)

-- and no further one
pub part_done : (p : ℕ → Bool) (from end : ℕ) (t so_far : List Placed) → Each (λ (l : Placed). l.course < end) t → from ≤ end → IsLeast (between from end p) None → so_far ≡ part_below p from t → so_far ≡ filter (λ (l : Placed). p l.course) t
part_done p from end t so_far fit le none s = s ∙ sym (part_skip p from end t le (λ k a b. inside p from end k (none k) a b)) ∙ part_whole p end t fit

-- nothing is below the first course
pub part_none : (p : ℕ → Bool) (t : List Placed) → part_below p 0 t ≡ []
part_none p t = none_below p 0 t (every t)
  where
    every : (ls : List Placed) → Each (λ (l : Placed). 0 ≤ l.course) ls
    every [] = tt
    every (l ∷ ls) = (omega arith, every ls)

-- the lectures of marked courses, by a test that says of each course of the instance whether it is
-- marked
pub part_marked : (count : ℕ) (p q : ℕ → Bool) (t : List Placed) → Each (λ (l : Placed). l.course < count) t → ((c : ℕ) → c < count → p c ≡ q c) → filter (λ (l : Placed). p l.course) t ≡ filter (λ (l : Placed). q l.course) t
part_marked count p q [] fit same = refl
part_marked count p q (x ∷ xs) fit same = elim (cases_Bool (q x.course)) [
  | inl y ↦ rw (same x.course fit.0, y) (ap (λ ls. x ∷ ls) (part_marked count p q xs fit.1 same))
  | inr n ↦ rw (same x.course fit.0, n) (part_marked count p q xs fit.1 same)
]

pub part_within : (p : ℕ → Bool) (from end c : ℕ) → IsLeast (between from end p) (Some c) → c < end
part_within p from end c least = (found p from end c least.0).1
