-- The rows of timetables, and bounds on their lengths.
use Rattle.std.proofs.Common.{◌≡◌, ℕ, suc, ◌+◌, ◌*◌, ◌<◌, ◌≤◌, true, cond, ◌==◌, eqb, List, [], ◌∷◌, length, refl, ◌∙◌, sym, arith, inl, inr}
use Rattle.std.specs.List.{sum_by, AllByRecursion as Each}
use Rattle.std.proofs.Math.Nat.{mul-le-mul_right}
use Rattle.std.proofs.lemmas.Bool.Decides.{nat_tests}
use Rattle.std.proofs.lemmas.Bool.{cases_Bool, cases_lt, eqb-true}
use Rattle.std.proofs.lemmas.List.{get_or_past}
use Rattle.std.proofs.lemmas.List.Sums.{sum_by-cons}
use Rattle.ctt_problem.specs.Lists.{Pairwise, sum_below}
use Rattle.ctt_problem.specs.Problem.{Problem, IsProblem, IsSmall, IsCourseFacts, course_of, course_count, slot_count}
use Rattle.ctt_problem.specs.declared.course_facts.CourseFacts.{CourseFacts}
use Rattle.ctt_problem.specs.Timetable.{IsTimetable, before, Ascending, Fits, course_row}
use Rattle.ctt_problem.specs.declared.placed.Placed.{Placed}
use Rattle.ctt_problem.proofs.TimetableLemmas.{Each-map, Each-at}
use Rattle.ctt_rules.proofs.ListLemmas.{Each-filter}
use Rattle.ctt_rules.proofs.SumLemmas.{sum_below_same, sum_below_add, sum_below_one, sum_below_zero, sum_below_le, length_is}

pub row_fits : (i : Problem) (t : List Placed) (c : ℕ) → IsTimetable i t → Each (Fits i) (course_row c t)
row_fits i t c h = Each-filter (Fits i) (λ l. l.course == c) t h.fits

pub courses_fit : (i : Problem) (t : List Placed) → IsTimetable i t → Each (λ (l : Placed). l.course < course_count i) t
courses_fit i t h = Each-map (Fits i) (λ (l : Placed). l.course < course_count i) (λ l f. f.0) t h.fits

pub slots_fit : (i : Problem) (t : List Placed) → Each (Fits i) t → Each (λ (l : Placed). l.slot < slot_count i) t
slots_fit i t h = Each-map (Fits i) (λ (l : Placed). l.slot < slot_count i) (λ l f. f.1) t h

-- a course has a small number of lectures
pub lectures_small : (i : Problem) → IsProblem i → (c : ℕ) → IsSmall (course_of i c).lectures
lectures_small i p c = elim (cases_lt c (course_count i)) [
  | inl lt ↦ (Each-at (IsCourseFacts (length i.teacher_names)) i.courses p.courses c none lt).1
  | inr le ↦ (let past : course_of i c ≡ none = get_or_past i.courses c none le in rw past (omega arith))
]
  where
    none : CourseFacts
    none = record { teacher = 0; lectures = 0; min_days = 0; students = 0 }

-- a sum over the lectures, course by course
pub sum_by_course : (f : Placed → ℕ) (n : ℕ) (t : List Placed) → Each (λ (l : Placed). l.course < n) t → sum_by f t ≡ sum_below (λ c. sum_by f (course_row c t)) n
sum_by_course f n [] h = sym (sum_below_zero (λ c. 0) n (λ c lt. refl))
sum_by_course f n (x ∷ xs) h =
    let each : (c : ℕ) → sum_by f (course_row c (x ∷ xs)) ≡ cond (eqb x.course c) (f x) 0 + sum_by f (course_row c xs) =
    λ c. elim (cases_Bool (eqb x.course c)) [ inl y ↦ rw y (sum_by-cons f x (course_row c xs)) | inr n' ↦ rw n' (omega arith) ] in
    let split : sum_below (λ c. sum_by f (course_row c (x ∷ xs))) n ≡ sum_below (λ c. cond (eqb x.course c) (f x) 0) n + sum_below (λ c. sum_by f (course_row c xs)) n =
    sum_below_same (λ c. sum_by f (course_row c (x ∷ xs))) (λ c. cond (eqb x.course c) (f x) 0 + sum_by f (course_row c xs)) n each ∙ sum_below_add (λ c. cond (eqb x.course c) (f x) 0) (λ c. sum_by f (course_row c xs)) n in
    omega (arith, split, sum_below_one (f x) x.course n h.0, sum_by_course f n xs h.1, sum_by-cons f x xs)

-- after a lecture of a course, the lectures of the course are in later slots
pub row_after : (c : ℕ) (x : Placed) (ys : List Placed) → x.course ≡ c → Each (λ z. before x z ≡ true) ys → Each (λ (z : Placed). x.slot < z.slot) (course_row c ys)
row_after c x [] same k = tt
row_after c x (y ∷ ys) same k = elim (cases_Bool (eqb y.course c)) [
  | inl b ↦ rw b (later y same (eqb-true y.course c b) k.0, row_after c x ys same k.1)
  | inr b ↦ rw b (row_after c x ys same k.1)
]
  where
    later : (y : Placed) → x.course ≡ c → y.course ≡ c → before x y ≡ true → x.slot < y.slot
    later y same other k = grind (arith, nat_tests)

-- the slots of a row ascend
pub row_by_slot : (c : ℕ) (t : List Placed) → Ascending t → Pairwise (λ (a b : Placed). a.slot < b.slot) (course_row c t)
row_by_slot c [] h = tt
row_by_slot c (x ∷ xs) h = elim (cases_Bool (eqb x.course c)) [
  | inl y ↦ rw y (row_after c x xs (eqb-true x.course c y) h.0, row_by_slot c xs h.1)
  | inr n ↦ rw n (row_by_slot c xs h.1)
]

-- there are at most as many lectures in ascending slots as slots
slots_left : (n low : ℕ) (ls : List Placed) → low ≤ n → Each (λ (l : Placed). low ≤ l.slot) ls → Each (λ (l : Placed). l.slot < n) ls → Pairwise (λ (a b : Placed). a.slot < b.slot) ls → length ls + low ≤ n
slots_left n low [] le h f p = omega arith
slots_left n low (x ∷ xs) le h f p =
    let x_in : x.slot < n = f.0 in
    let x_low : low ≤ x.slot = h.0 in
    omega (arith, slots_left n (suc x.slot) xs (omega arith) (Each-map (λ (y : Placed). x.slot < y.slot) (λ (l : Placed). suc x.slot ≤ l.slot) (λ l k. omega arith) xs p.0) f.1 p.1)

module _ (i : Problem) (t : List Placed) (h : IsTimetable i t) where
  -- a row has at most one lecture in each slot
  pub row_is_short : (c : ℕ) → length (course_row c t) ≤ slot_count i
  row_is_short c =
      let slots : Each (λ (l : Placed). l.slot < slot_count i) (course_row c t) = slots_fit i (course_row c t) (row_fits i t c h) in
      let every : Each (λ (l : Placed). 0 ≤ l.slot) (course_row c t) = Each-map (λ (l : Placed). l.slot < slot_count i) (λ (l : Placed). 0 ≤ l.slot) (λ l f. omega arith) (course_row c t) slots in
      omega (arith, slots_left (slot_count i) 0 (course_row c t) (omega arith) every slots (row_by_slot c t h.ascending))

  -- a timetable has at most one lecture of each course in each slot
  pub length_is_bounded : length t ≤ course_count i * slot_count i
  length_is_bounded =
      let rows : sum_below (λ c. sum_by (λ _. 1) (course_row c t)) (course_count i) ≤ course_count i * slot_count i = sum_below_le (λ c. sum_by (λ _. 1) (course_row c t)) (slot_count i) (course_count i) (λ c. omega (arith, row_is_short c, length_is (course_row c t))) in
      omega (arith, rows, length_is t, sum_by_course (λ _. 1) (course_count i) t (courses_fit i t h))

  pub few_lectures : IsProblem i → length t ≤ 4000000
  few_lectures p = omega (arith, length_is_bounded, mul-le-mul_right (slot_count i) p.courses_few, p.slots_few)
