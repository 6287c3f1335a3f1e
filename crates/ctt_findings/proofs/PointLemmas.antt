-- The points of findings, kind by kind.
use Rattle.std.proofs.Common.{◌≡◌, ℕ, zero, suc, ◌+◌, ◌-◌, ◌*◌, ◌<◌, ◌≤◌, Bool, true, false, cond, not, ◌==◌, nat_lt, List, [], ◌∷◌, ◌++◌, take, length, get_or, Option, Some, None, refl, ◌∙◌, sym, ap, ap₂, arith, inl, inr, add-one}
use Rattle.std.specs.List.{cons_option, filter, filter_map, list_any, sum_by, count_by, AllByRecursion as Each}
use Rattle.std.specs.Option.{option_to_list}
use Rattle.std.proofs.lemmas.Bool.{cases_eq, eq-eqb, ne_eqb, lt-ltb}
use Rattle.std.proofs.lemmas.List.{take_all}
use Rattle.std.proofs.lemmas.List.Sums.{sum_by-cons, sum_by-append, sum_by_more}
use Rattle.ctt_problem.specs.Lists.{sum_below, has}
use Rattle.ctt_problem.specs.Problem.{Problem, course_of, course_count, members}
use Rattle.ctt_problem.specs.Timetable.{IsTimetable, course_row}
use Rattle.ctt_problem.specs.declared.placed.Placed.{Placed}
use Rattle.ctt_rules.specs.Hard.{share_room, missing_count, unavailable_count, barred_count, blocked_count, occupancy_count}
use Rattle.ctt_rules.specs.Earlier.{tally, room_taken}
use Rattle.ctt_rules.specs.Penalty.{penalty, unseated, days_cost, rooms_cost, is_alone, lectures_of, alone_cost}
use Rattle.ctt_rules.proofs.ConflictLemmas.{rooms_tallied}
use Rattle.ctt_rules.proofs.SumLemmas.{sum_below_same}
use Rattle.ctt_rules.proofs.TimetableLemmas.{courses_fit, sum_by_course}
use Rattle.ctt_findings.specs.Findings.{for_each, where_passes, found, by_course, lectures_finding, availability_finding, occupancy_from, occupancy_finding, barred_finding, blocked_finding, capacity_finding, days_finding, stability_finding, compactness_finding, alone_of, compactness_of, compactness_findings}
use Rattle.ctt_findings.specs.Laws.{points_of}
use Rattle.ctt_findings.specs.declared.finding.Finding.{Finding}
use Rattle.ctt_findings.specs.declared.finding.Finding.TheVariants.{Lectures, Availability, Occupancy, Barred, Blocked, Capacity, Compactness}

abbrev pub worth : List Finding → ℕ
worth xs = sum_by points_of xs

pub worth_option : (o : Option Finding) (ys : List Finding) → worth (cons_option o ys) ≡ worth (option_to_list o) + worth ys
worth_option None ys = omega arith
worth_option (Some x) ys = omega (arith, sum_by-cons points_of x ys, sum_by-cons points_of x [])

pub found_worth : (b : Bool) (x : Finding) → worth (option_to_list (found b x)) ≡ cond b (points_of x) 0
found_worth true x = omega (arith, sum_by-cons points_of x [])
found_worth false x = refl

-- the points of the findings for each element
pub worth_map : {X : Type 0} (f : X → Option Finding) (g : X → ℕ) → ((x : X) → worth (option_to_list (f x)) ≡ g x) → (xs : List X) → worth (filter_map f xs) ≡ sum_by g xs
worth_map f g e [] = refl
worth_map f g e (x ∷ xs) = worth_option (f x) (filter_map f xs) ∙ ap₂ (λ m n. m + n) (e x) (worth_map f g e xs) ∙ sym (sum_by-cons g x xs)

-- the points of the findings for each number
pub worth_each : (f : ℕ → List Finding) (n : ℕ) → worth (for_each f n) ≡ sum_below (λ k. worth (f k)) n
worth_each f zero = refl
worth_each f (suc n) = sum_by-append points_of (for_each f n) (f n) ∙ ap (λ k. k + worth (f n)) (worth_each f n)

worth_where : (b : Bool) (xs : List Finding) → worth (cond b xs []) ≡ cond b (worth xs) 0
worth_where true xs = refl
worth_where false xs = refl

-- the points of the findings for each number that passes
pub worth_passing : (p : ℕ → Bool) (f : ℕ → List Finding) (n : ℕ) → worth (for_each (where_passes p f) n) ≡ sum_below (λ k. cond (p k) (worth (f k)) 0) n
worth_passing p f n = worth_each (where_passes p f) n ∙ sum_below_same (λ k. worth (where_passes p f k)) (λ k. cond (p k) (worth (f k)) 0) n (λ k. worth_where (p k) (f k))

some_points : (n : ℕ) → cond (nat_lt 0 n) n 0 ≡ n
some_points zero = refl
some_points (suc n) = ap (λ b. cond b (suc n) 0) (lt-ltb 0 (suc n) (omega arith))

none_or_some : (p s : ℕ) → cond (not (p == s)) ((s - p) + (p - s)) 0 ≡ (s - p) + (p - s)
none_or_some p s = elim (cases_eq p s) [
  | inl same ↦ rw (eq-eqb p s same) (omega (arith, same))
  | inr other ↦ rw (ne_eqb p s other) refl
]

module _ (i : Problem) (t : List Placed) where
  by_courses : (f : ℕ → List Placed → Option Finding) (g : ℕ → List Placed → ℕ) → ((c : ℕ) (row : List Placed) → worth (option_to_list (f c row)) ≡ g c row) → worth (by_course i t f) ≡ sum_below (λ c. g c (course_row c t)) (course_count i)
  by_courses f g e =
      worth_each (λ c. option_to_list (f c (course_row c t))) (course_count i)
      ∙ sum_below_same (λ c. worth (option_to_list (f c (course_row c t)))) (λ c. g c (course_row c t)) (course_count i) (λ c. e c (course_row c t))

  pub lectures_counted : worth (by_course i t (lectures_finding i)) ≡ missing_count i t
  lectures_counted =
      by_courses (lectures_finding i) (λ c row. ((course_of i c).lectures - length row) + (length row - (course_of i c).lectures))
      (λ c row. found_worth (not (length row == (course_of i c).lectures)) (Lectures c (length row) (course_of i c).lectures) ∙ none_or_some (length row) (course_of i c).lectures)

  pub days_counted : worth (by_course i t (days_finding i)) ≡ (penalty i t).days
  days_counted =
      by_courses (days_finding i) (days_cost i) (λ c row. found_worth (nat_lt 0 (days_cost i c row)) _ ∙ some_points (days_cost i c row))

  pub stability_counted : worth (by_course i t (stability_finding i)) ≡ (penalty i t).stability
  stability_counted =
      by_courses (stability_finding i) (λ c row. rooms_cost i row) (λ c row. found_worth (nat_lt 0 (rooms_cost i row)) _ ∙ some_points (rooms_cost i row))

  pub availability_counted : worth (filter_map (availability_finding i) t) ≡ unavailable_count i t
  availability_counted = worth_map (availability_finding i) _ (λ l. found_worth _ (Availability l)) t

  pub barred_counted : worth (filter_map (barred_finding i) t) ≡ barred_count i t
  barred_counted = worth_map (barred_finding i) _ (λ l. found_worth _ (Barred l)) t

  pub blocked_counted : worth (filter_map (blocked_finding i) t) ≡ blocked_count i t
  blocked_counted = worth_map (blocked_finding i) _ (λ l. found_worth _ (Blocked l)) t

  pub capacity_counted : worth (filter_map (capacity_finding i) t) ≡ (penalty i t).capacity
  capacity_counted = worth_map (capacity_finding i) (unseated i) (λ l. found_worth (nat_lt 0 (unseated i l)) (Capacity l (unseated i l)) ∙ some_points (unseated i l)) t

-- the points of the lectures in rooms that are taken
taken_worth : (before xs : List Placed) → worth (occupancy_from before xs) ≡ tally room_taken before xs
taken_worth before [] = refl
taken_worth before (x ∷ xs) =
    sum_by-append points_of (option_to_list (occupancy_finding (list_any (share_room x) before) x)) (occupancy_from (before ++ x ∷ []) xs)
    ∙ ap₂ (λ m n. m + n) (found_worth (list_any (share_room x) before) (Occupancy x)) (taken_worth (before ++ x ∷ []) xs)

pub occupancy_counted : (i : Problem) (t : List Placed) → IsTimetable i t → worth (occupancy_from [] t) ≡ occupancy_count i t
occupancy_counted i t h = taken_worth [] t ∙ rooms_tallied i t h.fits

-- a sum over the lectures whose courses pass, course by course
join : (b : Bool) (m n : ℕ) → cond b m 0 + cond b n 0 ≡ cond b (m + n) 0
join true m n = refl
join false m n = refl

none : (b : Bool) → ◌≡◌ {A = ℕ} 0 (cond b 0 0)
none true = refl
none false = refl

by_row : (p : ℕ → Bool) (g : Placed → ℕ) (c : ℕ) (t : List Placed) → sum_by (λ (l : Placed). cond (p l.course) (g l) 0) (course_row c t) ≡ cond (p c) (sum_by g (course_row c t)) 0
by_row p g c [] = none (p c)
by_row p g c (x ∷ xs) = elim (cases_eq x.course c) [
  | inl same ↦ rw (eq-eqb x.course c same)
      (sum_by-cons (λ (l : Placed). cond (p l.course) (g l) 0) x (course_row c xs) ∙ ap₂ (λ m n. m + n) (ap (λ k. cond (p k) (g x) 0) same) (by_row p g c xs)
      ∙ join (p c) (g x) (sum_by g (course_row c xs)) ∙ ap (λ n. cond (p c) n 0) (sym (sum_by-cons g x (course_row c xs))))
  | inr other ↦ rw (ne_eqb x.course c other) (by_row p g c xs)
]

pub passing_rows : (p : ℕ → Bool) (g : Placed → ℕ) (n : ℕ) (t : List Placed) → Each (λ (l : Placed). l.course < n) t
    → sum_below (λ c. cond (p c) (sum_by g (course_row c t)) 0) n ≡ sum_by (λ (l : Placed). cond (p l.course) (g l) 0) t
passing_rows p g n t h =
    sum_below_same (λ c. cond (p c) (sum_by g (course_row c t)) 0) (λ c. sum_by (λ (l : Placed). cond (p l.course) (g l) 0) (course_row c t)) n (λ c. sym (by_row p g c t))
    ∙ sym (sum_by_course (λ (l : Placed). cond (p l.course) (g l) 0) n t h)

sum_filtered : (p : Placed → Bool) (g : Placed → ℕ) (t : List Placed) → sum_by (λ l. cond (p l) (g l) 0) t ≡ sum_by g (filter p t)
sum_filtered p g [] = refl
sum_filtered p g (x ∷ xs) = sum_by-cons (λ l. cond (p l) (g l) 0) x xs ∙ ap (λ n. cond (p x) (g x) 0 + n) (sum_filtered p g xs) ∙ one (p x)
  where
    one : (b : Bool) → cond b (g x) 0 + sum_by g (filter p xs) ≡ sum_by g (cond b (x ∷ filter p xs) (filter p xs))
    one true = sym (sum_by-cons g x (filter p xs))
    one false = omega arith

twice : {X : Type 0} (p : X → Bool) (xs : List X) → sum_by (λ x. cond (p x) 2 0) xs ≡ 2 * count_by p xs
twice p [] = refl
twice p (x ∷ xs) = omega (arith, by (p x), sum_by-cons (λ y. cond (p y) 2 0) x xs, sum_by-cons (λ y. cond (p y) 1 0) x xs, twice p xs)
  where
    by : (b : Bool) → cond b 2 0 ≡ 2 * cond b 1 0
    by true = refl
    by false = refl

-- a sum over the indices of a list
places_below : {X : Type 0} (f : X → ℕ) (d : X) (xs : List X) (n : ℕ) → n ≤ length xs → sum_below (λ k. f (get_or xs k d)) n ≡ sum_by f (take n xs)
places_below f d xs zero le = refl
places_below f d xs (suc n) le =
    ap (λ k. k + f (get_or xs n d)) (places_below f d xs n (omega (arith, le)))
    ∙ sym (ap (λ k. sum_by f (take k xs)) (sym (add-one n)) ∙ sum_by_more f xs n d (omega (arith, le)))

pub by_places : {X : Type 0} (f : X → ℕ) (d : X) (xs : List X) → sum_below (λ k. f (get_or xs k d)) (length xs) ≡ sum_by f xs
by_places f d xs = places_below f d xs (length xs) (omega arith) ∙ ap (sum_by f) (take_all (length xs) xs (omega arith))

module _ (i : Problem) (t : List Placed) (h : IsTimetable i t) where
  compactness_at : (q : ℕ) → worth (compactness_of i t q) ≡ alone_cost i (lectures_of (members i q) t)
  compactness_at q =
      let ms : List ℕ = members i q in
      let alone : Placed → Bool = is_alone i (lectures_of ms t) in
      let two : Placed → ℕ = λ l. cond (alone l) 2 0 in
      let row : (c : ℕ) → worth (alone_of i t q c) ≡ sum_by two (course_row c t) = λ c. worth_map (λ l. compactness_finding q (alone l) l) two (λ l. found_worth (alone l) (Compactness q l 2)) (course_row c t) in
      worth_passing (λ c. has c ms) (alone_of i t q) (course_count i)
      ∙ sum_below_same (λ c. cond (has c ms) (worth (alone_of i t q c)) 0) (λ c. cond (has c ms) (sum_by two (course_row c t)) 0) (course_count i) (λ c. ap (λ n. cond (has c ms) n 0) (row c))
      ∙ passing_rows (λ c. has c ms) two (course_count i) t (courses_fit i t h)
      ∙ sum_filtered (λ l. has l.course ms) two t
      ∙ twice alone (lectures_of ms t)

  pub compactness_counted : worth (compactness_findings i t) ≡ (penalty i t).compactness
  compactness_counted =
      worth_each (compactness_of i t) (length i.curricula)
      ∙ sum_below_same (λ q. worth (compactness_of i t q)) (λ q. alone_cost i (lectures_of (members i q) t)) (length i.curricula) compactness_at
      ∙ by_places (λ ms. alone_cost i (lectures_of ms t)) [] i.curricula
