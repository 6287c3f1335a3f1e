-- The penalty by courses and curricula, how large it is, and what a change does to it.
use Rattle.std.proofs.Common.{◌≡◌, ℕ, zero, suc, ◌+◌, ◌*◌, ◌<◌, ◌≤◌, Bool, true, false, cond, ◌==◌, List, [], ◌∷◌, length, get_or, ℤ, w64, SFits, to_z, of_z, refl, ap, arith, inl, inr}
use Rattle.std.specs.List.{sum_by, list_any, AllByRecursion as Each}
use Rattle.std.proofs.Math.Nat.{mul-le-mul_right}
use Rattle.std.proofs.lemmas.Bool.{cases_lt}
use Rattle.std.proofs.lemmas.Int.{ints}
use Rattle.std.proofs.lemmas.List.{get_or_past}
use Rattle.std.proofs.lemmas.List.Sums.{sum_by-cons, sum_by-le}
use Rattle.ctt_problem.specs.Lists.{sum_below, has}
use Rattle.ctt_problem.specs.Problem.{Problem, IsProblem, IsSmall, IsCourseFacts, course_of, course_count, room_count}
use Rattle.ctt_problem.specs.Timetable.{IsTimetable, course_row}
use Rattle.ctt_problem.specs.declared.course_facts.CourseFacts.{CourseFacts}
use Rattle.ctt_problem.specs.declared.placed.Placed.{Placed}
use Rattle.ctt_problem.proofs.TimetableLemmas.{Each-at}
use Rattle.ctt_rules.specs.Penalty.{penalty, total, course_cost, row_cost, unseated, days_cost, rooms_cost, rooms_of, alone_cost, is_alone, lectures_of}
use Rattle.ctt_rules.proofs.SumLemmas.{sum_below_le, count_below_le}
use Rattle.ctt_rules.proofs.CurriculumLemmas.{count_lectures_le}
use Rattle.ctt_rules.proofs.TimetableLemmas.{sum_by_course, courses_fit, row_is_short, few_lectures}
use Rattle.ctt_board.specs.Changes.{apply}
use Rattle.ctt_board.specs.Costs.{touches, touches_curriculum, courses_cost, curricula_cost}
use Rattle.ctt_board.specs.declared.cell.Cell.{Cell}
use Rattle.ctt_board.proofs.ApplyLemmas.{untouched_apply}

sum_below_three : (a b c : ℕ → ℕ) (n : ℕ) → sum_below (λ k. a k + b k + 0 + c k) n ≡ sum_below a n + sum_below b n + sum_below c n
sum_below_three a b c zero = refl
sum_below_three a b c (suc n) = omega (arith, sum_below_three a b c n)

-- the sum over courses and curricula, of any lectures of the instance's courses
pub total_of : (i : Problem) (t : List Placed) → Each (λ (l : Placed). l.course < course_count i) t → total (penalty i t) ≡ sum_below (λ c. total (course_cost i t c)) (course_count i) + sum_by (λ q. alone_cost i (lectures_of q t)) i.curricula
total_of i t h =
    let seats : ℕ → ℕ = λ c. sum_by (unseated i) (course_row c t) in
    let days : ℕ → ℕ = λ c. days_cost i c (course_row c t) in
    let rooms : ℕ → ℕ = λ c. rooms_cost i (course_row c t) in
    omega (arith, sum_below_three seats days rooms (course_count i), sum_by_course (unseated i) (course_count i) t h)

pub total_is : (i : Problem) (t : List Placed) → IsTimetable i t → total (penalty i t) ≡ sum_below (λ c. total (course_cost i t c)) (course_count i) + sum_by (λ q. alone_cost i (lectures_of q t)) i.curricula
total_is i t h = total_of i t (courses_fit i t h)

-- sums of which the terms that do not pass are the same
sum_below_where : (p : ℕ → Bool) (f g : ℕ → ℕ) (n : ℕ) → ((k : ℕ) → p k ≡ false → f k ≡ g k) → sum_below (λ k. cond (p k) (f k) 0) n + sum_below g n ≡ sum_below (λ k. cond (p k) (g k) 0) n + sum_below f n
sum_below_where p f g zero e = refl
sum_below_where p f g (suc n) e = omega (arith, sum_below_where p f g n e, by (p n) (e n))
  where
    by : (b : Bool) → (b ≡ false → f n ≡ g n) → cond b (f n) 0 + g n ≡ cond b (g n) 0 + f n
    by true h = omega arith
    by false h = omega (arith, h refl)

sum_by_where : {X : Type 0} (p : X → Bool) (f g : X → ℕ) (xs : List X) → ((x : X) → p x ≡ false → f x ≡ g x) → sum_by (λ x. cond (p x) (f x) 0) xs + sum_by g xs ≡ sum_by (λ x. cond (p x) (g x) 0) xs + sum_by f xs
sum_by_where p f g [] e = refl
sum_by_where p f g (x ∷ xs) e = omega (arith, sum_by_where p f g xs e, by (p x) (e x), sum_by-cons (λ y. cond (p y) (f y) 0) x xs, sum_by-cons (λ y. cond (p y) (g y) 0) x xs, sum_by-cons f x xs, sum_by-cons g x xs)
  where
    by : (b : Bool) → (b ≡ false → f x ≡ g x) → cond b (f x) 0 + g x ≡ cond b (g x) 0 + f x
    by true h = omega arith
    by false h = omega (arith, h refl)

-- a change makes the difference that it makes to what it touches
pub difference_of : (i : Problem) (cells : List Cell) (t : List Placed) → Each (λ (l : Placed). l.course < course_count i) t → Each (λ (l : Placed). l.course < course_count i) (apply cells t)
    → (courses_cost i cells (apply cells t) + curricula_cost i cells (apply cells t)) + total (penalty i t) ≡ (courses_cost i cells t + curricula_cost i cells t) + total (penalty i (apply cells t))
difference_of i cells t h k =
    let u : List Placed = apply cells t in
    let courses = sum_below_where (touches cells) (λ c. total (course_cost i u c)) (λ c. total (course_cost i t c)) (course_count i) (λ c e. ap (λ ls. total (row_cost i c ls)) (untouched_apply (λ d. d == c) cells t e)) in
    let curricula = sum_by_where (touches_curriculum cells) (λ q. alone_cost i (lectures_of q u)) (λ q. alone_cost i (lectures_of q t)) i.curricula (λ q e. ap (alone_cost i) (untouched_apply (λ d. has d q) cells t e)) in
    omega (arith, courses, curricula, total_of i t h, total_of i u k)

-- the numbers of a course are small
facts_small : (i : Problem) → IsProblem i → (c : ℕ) → IsSmall (course_of i c).min_days × IsSmall (course_of i c).students
facts_small i p c = elim (cases_lt c (course_count i)) [
  | inl lt ↦ (let at = Each-at (IsCourseFacts (length i.teacher_names)) i.courses p.courses c none lt in (at.2, at.3))
  | inr le ↦ (let past : course_of i c ≡ none = get_or_past i.courses c none le in rw past (omega arith, omega arith))
]
  where
    none : CourseFacts
    none = record { teacher = 0; lectures = 0; min_days = 0; students = 0 }

module _ (i : Problem) (p : IsProblem i) (t : List Placed) (h : IsTimetable i t) where
  pub course_cost_small : (c : ℕ) → total (course_cost i t c) ≤ 3000000000000
  course_cost_small c =
      let row : List Placed = course_row c t in
      let seats : (l : Placed) → unseated i l ≤ 999999999 = λ l. omega (arith, (facts_small i p l.course).1) in
      let capacity : sum_by (unseated i) row ≤ length row * 999999999 = sum_by-le (unseated i) 999999999 row (λ k d lt. seats (get_or row k d)) in
      let few : length row ≤ 2000 = omega (arith, row_is_short i t h c, p.slots_few) in
      let short : length row * 999999999 ≤ 2000 * 999999999 = mul-le-mul_right 999999999 few in
      let rooms : rooms_of i row ≤ 1000 = omega (arith, count_below_le (λ r. list_any (λ (l : Placed). l.room == r) row) (room_count i), p.rooms_few) in
      omega (arith, capacity, short, rooms, (facts_small i p c).0)

  pub alone_cost_small : (q : List ℕ) → alone_cost i (lectures_of q t) ≤ 8000000
  alone_cost_small q = omega (arith, count_lectures_le (is_alone i (lectures_of q t)) q t, few_lectures i t h p)

  pub penalty_small : total (penalty i t) ≤ 2000 * 3000000000000 + 20000 * 8000000
  penalty_small =
      let courses : sum_below (λ c. total (course_cost i t c)) (course_count i) ≤ course_count i * 3000000000000 = sum_below_le (λ c. total (course_cost i t c)) 3000000000000 (course_count i) course_cost_small in
      let curricula : sum_by (λ q. alone_cost i (lectures_of q t)) i.curricula ≤ length i.curricula * 8000000 = sum_by-le (λ q. alone_cost i (lectures_of q t)) 8000000 i.curricula (λ k d lt. alone_cost_small (get_or i.curricula k d)) in
      omega (arith, courses, curricula, total_is i t h, mul-le-mul_right 3000000000000 p.courses_few, mul-le-mul_right 8000000 p.curricula_few)

-- a signed number that is returned is the number
pub signed_is : (x d : ℤ) → SFits w64 x → x ≡ d → to_z w64 (of_z w64 x) ≡ d
signed_is x d fits same = omega (arith, ints)
