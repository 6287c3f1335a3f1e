-- The rows of a timetable, which follow one another.
use Rattle.std.proofs.Common.{◌≡◌, ℕ, zero, suc, ◌+◌, ◌-◌, ◌<◌, ◌≤◌, Bool, true, false, ◌==◌, leb, List, [], ◌∷◌, length, take, drop, get_or, refl, ◌∙◌, sym, ap, arith, inl, inr, one-add, add-one}
use Rattle.std.specs.List.{list_all, prefix_len, AllWithin, AllByRecursion as Each}
use Rattle.std.specs.List.Sorted.{IsNonDecreasingBy}
use Rattle.std.proofs.lemmas.Bool.Decides.{nat_tests}
use Rattle.std.proofs.lemmas.Bool.{cases_eq, eq-eqb, ne_eqb, eqb-true, leb-true, le-leb, lt-leb, and_parts}
use Rattle.std.proofs.lemmas.List.{drop-drop, get_or-drop, length-drop}
use Rattle.std.proofs.lemmas.List.Sums.{prefix_len-le-length}
use Rattle.ctt_problem.specs.Timetable.{before, Ascending, course_row}
use Rattle.ctt_problem.specs.declared.placed.Placed.{Placed}
use Rattle.ctt_problem.proofs.TimetableLemmas.{Each-map, Each-at, Each-from_index}
use Rattle.ctt_rules.specs.Rows.{from_course, IsCut}
use Rattle.ctt_rules.proofs.ListLemmas.{filter_none, filter_every, filter_within, Pairwise-filter, Each-filter_passes}

pub record IsStart (c start : ℕ) (t : List Placed) : Type 0 where
  pub within : start ≤ length t
  pub rest : drop start t ≡ from_course c t

-- the prefix with the lectures of a course, and the lectures of the courses after it
module _ (c : ℕ) where
  all_after : (x : Placed) (xs : List Placed) → c < x.course → Each (λ y. before x y ≡ true) xs → Each (λ (y : Placed). c < y.course) xs
  all_after x xs lt h = Each-map (λ y. before x y ≡ true) (λ (y : Placed). c < y.course) (λ y k. by y k) xs h
    where
      by : (y : Placed) → before x y ≡ true → c < y.course
      by y k = grind (arith, nat_tests)

  none_there : (t : List Placed) → Each (λ (l : Placed). c < l.course) t → course_row c t ≡ []
  none_there t h = filter_none (λ l. l.course == c) t (Each-map (λ (l : Placed). c < l.course) (λ l. (l.course == c) ≡ false) (λ l lt. ne_eqb l.course c (λ e. omega arith)) t h)

  all_there : (t : List Placed) → Each (λ (l : Placed). c < l.course) t → from_course (suc c) t ≡ t
  all_there t h = filter_every (λ l. leb (suc c) l.course) t (Each-map (λ (l : Placed). c < l.course) (λ l. leb (suc c) l.course ≡ true) (λ l lt. le-leb (suc c) l.course (omega arith)) t h)

  pub front_is : (t : List Placed) → Each (λ (l : Placed). c ≤ l.course) t → Ascending t
      → (take (prefix_len (λ l. l.course == c) t) t ≡ course_row c t) × (drop (prefix_len (λ l. l.course == c) t) t ≡ from_course (suc c) t)
  front_is [] le h = (refl, refl)
  front_is (x ∷ xs) le h = elim (cases_eq x.course c) [
    | inl same ↦ (
        let yes' : (x.course == c) ≡ true = eq-eqb x.course c same in
        let no' : leb (suc c) x.course ≡ false = lt-leb (suc c) x.course (omega arith) in
        let rest = front_is xs le.1 h.1 in
        rw (yes', no', one-add) (ap (λ ys. x ∷ ys) rest.0, rest.1))
    | inr other ↦ (
        let no' : (x.course == c) ≡ false = ne_eqb x.course c other in
        let gt : c < x.course = omega (arith, le.0) in
        let every : Each (λ (l : Placed). c < l.course) (x ∷ xs) = (gt, all_after x xs gt h.0) in
        (rw no' (sym (none_there xs every.1)), rw no' (sym (all_there (x ∷ xs) every))))
  ]

-- the rows, and the lectures before and after them, by index
module _ (t : List Placed) (ascending : Ascending t) where
  module _ (c start : ℕ) (is : IsStart c start t) where
    abbrev rest : List Placed
    rest = drop start t

    abbrev front : ℕ
    front = prefix_len (λ l. l.course == c) (drop start t)

    both : (take front rest ≡ course_row c rest) × (drop front rest ≡ from_course (suc c) rest)
    both =
        rw is.rest (front_is c (from_course c t) (Each-map (λ (l : Placed). leb c l.course ≡ true) (λ (l : Placed). c ≤ l.course) (λ l k. leb-true c l.course k) (from_course c t) (Each-filter_passes (λ l. leb c l.course) t))
        (Pairwise-filter (λ a b. before a b ≡ true) (λ l. leb c l.course) t ascending))

    pub row_is : take front rest ≡ course_row c t
    row_is = both.0 ∙ ap (course_row c) is.rest ∙ filter_within (λ l. l.course == c) (λ l. leb c l.course) t (λ l k. le-leb c l.course (omega (arith, eqb-true l.course c k)))

    pub next_start : IsStart (c + 1) (start + front) t
    next_start = record {
      within = omega (arith, prefix_len-le-length (λ (l : Placed). l.course == c) rest, length-drop start t, is.within);
      rest = sym (drop-drop front start t) ∙ both.1 ∙ ap (from_course (suc c)) is.rest ∙ filter_within (λ l. leb (suc c) l.course) (λ l. leb c l.course) t (λ l k. le-leb c l.course (omega (arith, leb-true (suc c) l.course k))) ∙ ap (λ d. from_course d t) (sym (add-one c));
    }

    next_is : (end : ℕ) → IsStart (c + 1) end t → end ≡ start + front
    next_is end next =
        let same : length (drop end t) ≡ length (drop (start + front) t) = ap length (next.rest ∙ sym next_start.rest) in
        let more : start + front ≤ length t = next_start.within in
        omega (arith, same, more, next.within, length-drop end t, length-drop (start + front) t)

    -- a row by its start and the next one's
    pub row_between : (end : ℕ) → IsStart (c + 1) end t → take (end - start) (drop start t) ≡ course_row c t
    row_between end next =
        let e : end - start ≡ front = omega (arith, next_is end next) in
        rw e row_is

-- the start of a course, given the lectures before it and those from it on
pub start_by_places : (c : ℕ) (t : List Placed) (start : ℕ) → start ≤ length t → AllWithin (λ (l : Placed). l.course < c) t 0 start → AllWithin (λ (l : Placed). c ≤ l.course) t start (length t) → IsStart c start t
start_by_places c [] zero le before after = record { within = omega arith; rest = refl }
start_by_places c [] (suc n) le before after = absurd (omega (arith, le))
start_by_places c (x ∷ xs) zero le before after = record {
  within = omega arith;
  rest = sym (filter_every (λ l. leb c l.course) (x ∷ xs) (Each-from_index (λ l. leb c l.course ≡ true) (x ∷ xs) (λ k d lt. le-leb c (get_or (x ∷ xs) k d).course (after k d (omega arith) lt))));
}
start_by_places c (x ∷ xs) (suc n) le before after =
    let here : x.course < c = before 0 x (omega arith) (omega arith) in
    let no' : leb c x.course ≡ false = lt-leb c x.course here in
    let more = start_by_places c xs n (omega (arith, le)) (λ k d l h. before (suc k) d (omega arith) (omega arith)) (λ k d l h. after (suc k) d (omega arith) (omega arith)) in
    record { within = omega (arith, more.within); rest = rw no' more.rest }

-- the courses of a timetable are non-decreasing
pub courses_rise : (t : List Placed) → Ascending t → IsNonDecreasingBy (λ (l : Placed). l.course) t
courses_rise [] h i j d le lt = absurd (omega (arith, lt))
courses_rise (x ∷ xs) h zero zero d le lt = omega arith
courses_rise (x ∷ xs) h zero (suc j) d le lt = by (get_or xs j d) (Each-at (λ b. before x b ≡ true) xs h.0 j d (omega (arith, lt)))
  where
    by : (y : Placed) → before x y ≡ true → x.course ≤ y.course
    by y k = grind (arith, nat_tests)
courses_rise (x ∷ xs) h (suc i) zero d le lt = absurd (omega (arith, le))
courses_rise (x ∷ xs) h (suc i) (suc j) d le lt = courses_rise xs h.1 i j d (omega (arith, le)) (omega (arith, lt))

-- a suffix of a non-decreasing list is non-decreasing
pub rise_from : (t : List Placed) (start : ℕ) → IsNonDecreasingBy (λ (l : Placed). l.course) t → IsNonDecreasingBy (λ (l : Placed). l.course) (drop start t)
rise_from t start rise i j d le lt = rw (get_or-drop start t i d, get_or-drop start t j d) (rise (start + i) (start + j) d (omega arith) (omega (arith, lt, length-drop start t)))

-- the row of a course, given its start and its length
pub row_by_places : (t : List Placed) → Ascending t → (c start end : ℕ) → IsStart c start t → IsStart (c + 1) end (drop start t) → take end (drop start t) ≡ course_row c t
row_by_places t ascending c start end is next =
    let rest : List Placed = from_course c t in
    let order : Ascending rest = Pairwise-filter (λ a b. before a b ≡ true) (λ l. leb c l.course) t ascending in
    let again : rest ≡ from_course c rest = sym (filter_within (λ l. leb c l.course) (λ l. leb c l.course) t (λ l k. k)) in
    let first : IsStart c 0 rest = record { within = omega arith; rest = again } in
    let there : IsStart (c + 1) end rest = rw is.rest at next in
    let e : end - 0 ≡ end = omega arith in
    rw is.rest (rw e at (row_between rest order c 0 first end there) ∙ filter_within (λ l. l.course == c) (λ l. leb c l.course) t (λ l k. le-leb c l.course (omega (arith, eqb-true l.course c k))))

-- the prefix of elements that pass ends at the first that does not
pub passes_end : {X : Type 0} (p : X → Bool) (d : X) (xs : List X) (k : ℕ) → k ≤ length xs → list_all p (take k xs) ≡ true → (k < length xs → p (get_or xs k d) ≡ false) → prefix_len p xs ≡ k
passes_end p d [] zero le all stop = refl
passes_end p d (x ∷ xs) zero le all stop = rw (stop (omega arith)) refl
passes_end p d [] (suc k) le all stop = absurd (omega (arith, le))
passes_end p d (x ∷ xs) (suc k) le all stop =
    let parts = and_parts (p x) (list_all p (take k xs)) all in
    rw (parts.0, one-add) (ap suc (passes_end p d xs k (omega (arith, le)) parts.1 (λ lt. stop (omega (arith, lt)))))

-- the lectures of a timetable from a course on, split after the row of the course
pub cut_is : (t : List Placed) → Ascending t → (c : ℕ) (lectures : List Placed) → lectures ≡ from_course c t → (k : ℕ) → prefix_len (λ l. l.course == c) lectures ≡ k → IsCut c t (take k lectures) (drop k lectures)
cut_is t ascending c lectures is k e =
    let order : Ascending (from_course c t) = Pairwise-filter (λ a b. before a b ≡ true) (λ l. leb c l.course) t ascending in
    let later = Each-map (λ (l : Placed). leb c l.course ≡ true) (λ (l : Placed). c ≤ l.course) (λ l h. leb-true c l.course h) (from_course c t) (Each-filter_passes (λ l. leb c l.course) t) in
    let both = front_is c (from_course c t) later order in
    rw (← e, is) (record {
      front = both.0 ∙ filter_within (λ l. l.course == c) (λ l. leb c l.course) t (λ l h. le-leb c l.course (omega (arith, eqb-true l.course c h)));
      after = both.1 ∙ filter_within (λ l. leb (suc c) l.course) (λ l. leb c l.course) t (λ l h. le-leb c l.course (omega (arith, leb-true (suc c) l.course h))) ∙ ap (λ d. from_course d t) (sym (add-one c));
    })

-- all lectures are those from the first course on
pub from_first : (t : List Placed) → t ≡ from_course 0 t
from_first t = sym (filter_every (λ l. leb 0 l.course) t (Each-from_index (λ l. leb 0 l.course ≡ true) t (λ k d lt. le-leb 0 (get_or t k d).course (omega arith))))
