-- The rows that a call reads: each once and in order, and what it says that two timetables agree
-- there.
use Rattle.std.proofs.Common.{◌≡◌, ℕ, zero, suc, ◌<◌, ◌≤◌, Bool, true, false, cond, ◌||◌, ◌==◌, eqb, List, [], ◌∷◌, ◌++◌, map, refl, ◌∙◌, sym, ap, subst, arith, inl, inr}
use Rattle.std.specs.List.{filter, list_any, AllByRecursion as Each}
use Rattle.std.specs.Cmp.{both_ways}
use Rattle.std.proofs.lemmas.Bool.{cases_Bool, cases_eq, cases_lt, eq-eqb, ne_eqb, eqb-true, or_cases, or_left, or_right}
use Rattle.std.proofs.lemmas.List.Elements.{recursion_from_All}
use Rattle.ctt_problem.specs.Lists.{below, Pairwise}
use Rattle.ctt_problem.specs.Problem.{Problem, course_count, slot_count}
use Rattle.ctt_problem.specs.Timetable.{before, Ascending, IsTimetable, course_row, slot_row}
use Rattle.ctt_problem.specs.declared.placed.Placed.{Placed}
use Rattle.ctt_problem.proofs.LectureLaws.{one_list}
use Rattle.ctt_problem.proofs.ListLaws.{Each-mapped, Each-front, Each-rest}
use Rattle.ctt_problem.proofs.TimetableLemmas.{Each-map}
use Rattle.ctt_rules.proofs.ListLemmas.{filter_none, filter_within, Pairwise-filter}
use Rattle.ctt_rules.proofs.TimetableLemmas.{courses_fit, slots_fit}
use Rattle.ctt_edits.specs.Calls.{reads_course, reads_slot, rows_where, row, Agree, RowBefore}
use Rattle.ctt_edits.specs.EditLaws.{ReadsAscend}
use Rattle.ctt_edits.specs.declared.row.Row.{Row}
use Rattle.ctt_edits.specs.declared.row.Row.TheVariants.{Course as CourseRow, Slot as SlotRow}

-- two lists one after the other, and a list made from one
Each-append : {X : Type 0} (P : X → Type 0) (xs ys : List X) → Each P xs → Each P ys → Each P (xs ++ ys)
Each-append P [] ys h k = k
Each-append P (x ∷ xs) ys h k = (h.0, Each-append P xs ys h.1 k)

Pairwise-append : {X : Type 0} (R : X → X → Type 0) (xs ys : List X) → Pairwise R xs → Pairwise R ys → Each (λ x. Each (R x) ys) xs → Pairwise R (xs ++ ys)
Pairwise-append R [] ys h k a = k
Pairwise-append R (x ∷ xs) ys h k a = (Each-append (R x) xs ys h.0 a.0, Pairwise-append R xs ys h.1 k a.1)

Each-of_mapped : {X Y : Type 0} (P : Y → Type 0) (f : X → Y) (xs : List X) → Each P (map f xs) → Each (λ x. P (f x)) xs
Each-of_mapped P f [] h = tt
Each-of_mapped P f (x ∷ xs) h = (h.0, Each-of_mapped P f xs h.1)

Pairwise-mapped : {X Y : Type 0} (R : Y → Y → Type 0) (f : X → Y) (xs : List X) → Pairwise (λ a b. R (f a) (f b)) xs → Pairwise R (map f xs)
Pairwise-mapped R f [] h = tt
Pairwise-mapped R f (x ∷ xs) h = (Each-mapped (R (f x)) f xs h.0, Pairwise-mapped R f xs h.1)

every : {X : Type 0} (P : X → Type 0) (xs : List X) → ((x : X) → P x) → Each P xs
every P [] f = tt
every P (x ∷ xs) f = (f x, every P xs f)

-- the numbers below n that pass: they are below n, they ascend, and each that passes is one of them
all_below : (p : ℕ → Bool) (n : ℕ) → Each (λ k. k < n) (below p n)
all_below p zero = tt
all_below p (suc n) = Each-append (λ k. k < suc n) (below p n) (cond (p n) (n ∷ []) []) (Each-map (λ k. k < n) (λ k. k < suc n) (λ k h. omega arith) (below p n) (all_below p n)) (last (p n))
  where
    last : (b : Bool) → Each (λ k. k < suc n) (cond b (n ∷ []) [])
    last true = (omega arith, tt)
    last false = tt

below_ascends : (p : ℕ → Bool) (n : ℕ) → Pairwise (λ a b. a < b) (below p n)
below_ascends p zero = tt
below_ascends p (suc n) = one_more (p n) (below p n) (all_below p n) (below_ascends p n)
  where
    one_more : (b : Bool) (ks : List ℕ) → Each (λ k. k < n) ks → Pairwise (λ a b. a < b) ks → Pairwise (λ a b. a < b) (ks ++ cond b (n ∷ []) [])
    one_more true ks h k = Pairwise-append (λ a b. a < b) ks (n ∷ []) k (tt, tt) (Each-map (λ k. k < n) (λ k. Each (λ b. k < b) (n ∷ [])) (λ k h. (h, tt)) ks h)
    one_more false ks h k = Pairwise-append (λ a b. a < b) ks [] k tt (Each-map (λ k. k < n) (λ k. Each (λ b. k < b) []) (λ k h. tt) ks h)

Each-below : (P : ℕ → Type 0) (p : ℕ → Bool) (n : ℕ) → Each P (below p n) → (k : ℕ) → k < n → p k ≡ true → P k
Each-below P p zero h k lt e = absurd (omega arith)
Each-below P p (suc n) h k lt e = elim (cases_eq k n) [
  | inl same ↦ (
      let e' : p n ≡ true = ap p (sym same) ∙ e in
      let last : Each P (n ∷ []) = rw e' at (Each-rest P (below p n) (cond (p n) (n ∷ []) []) h) in
      subst P (sym same) last.0)
  | inr other ↦ Each-below P p n (Each-front P (below p n) (cond (p n) (n ∷ []) []) h) k (omega arith) e
]

-- rows that are chosen by their numbers are in order
pub rows_ascend : (i : Problem) (p q : ℕ → Bool) → Pairwise RowBefore (rows_where i p q)
rows_ascend i p q =
    let courses : List ℕ = below p (course_count i) in
    let slots : List ℕ = below q (slot_count i) in
    Pairwise-append RowBefore (map CourseRow courses) (map SlotRow slots)
    (Pairwise-mapped RowBefore CourseRow courses (below_ascends p (course_count i)))
    (Pairwise-mapped RowBefore SlotRow slots (below_ascends q (slot_count i)))
    (Each-mapped (λ x. Each (RowBefore x) (map SlotRow slots)) CourseRow courses (every (λ c. Each (RowBefore (CourseRow c)) (map SlotRow slots)) courses (λ c. Each-mapped (RowBefore (CourseRow c)) SlotRow slots (every (λ s. RowBefore (CourseRow c) (SlotRow s)) slots (λ s. tt)))))

pub reads_ascend : ReadsAscend
reads_ascend i call = rows_ascend i (reads_course i call) (reads_slot call)

-- two timetables have equal rows at the numbers that pass
pub record AgreeOn (p q : ℕ → Bool) (t u : List Placed) : Type 0 where
  pub courses : (c : ℕ) → p c ≡ true → course_row c t ≡ course_row c u
  pub slots : (s : ℕ) → q s ≡ true → slot_row s t ≡ slot_row s u

-- no lecture has a number past the last
pub none_past : (key : Placed → ℕ) (n k : ℕ) (t : List Placed) → Each (λ l. key l < n) t → n ≤ k → filter (λ l. key l == k) t ≡ []
none_past key n k t h past = filter_none (λ l. key l == k) t (Each-map (λ l. key l < n) (λ l. eqb (key l) k ≡ false) (λ l lt. ne_eqb (key l) k (λ e. omega arith)) t h)

at_each : (f : ℕ → Row) (p : ℕ → Bool) (n : ℕ) (t u : List Placed) → Each (λ r. row r t ≡ row r u) (map f (below p n)) → ((k : ℕ) → n ≤ k → row (f k) t ≡ row (f k) u) → (k : ℕ) → p k ≡ true → row (f k) t ≡ row (f k) u
at_each f p n t u h past k y = elim (cases_lt k n) [
  | inl lt ↦ Each-below (λ k. row (f k) t ≡ row (f k) u) p n (Each-of_mapped (λ r. row r t ≡ row r u) f (below p n) h) k lt y
  | inr le ↦ past k le
]

-- the rows are those of the instance; past these, rows are empty in both
pub agree_on : (i : Problem) (p q : ℕ → Bool) (t u : List Placed) → IsTimetable i t → IsTimetable i u → Agree t u (rows_where i p q) → AgreeOn p q t u
agree_on i p q t u h k a =
    let courses : List Row = map CourseRow (below p (course_count i)) in
    let slots : List Row = map SlotRow (below q (slot_count i)) in
    let each : Each (λ r. row r t ≡ row r u) (courses ++ slots) = recursion_from_All (λ r. row r t ≡ row r u) (courses ++ slots) a in
    record {
      courses = at_each CourseRow p (course_count i) t u (Each-front (λ r. row r t ≡ row r u) courses slots each) (λ c past. none_past (λ l. l.course) (course_count i) c t (courses_fit i t h) past ∙ sym (none_past (λ l. l.course) (course_count i) c u (courses_fit i u k) past));
      slots = at_each SlotRow q (slot_count i) t u (Each-rest (λ r. row r t ≡ row r u) courses slots each) (λ s past. none_past (λ l. l.slot) (slot_count i) s t (slots_fit i t h.fits) past ∙ sym (none_past (λ l. l.slot) (slot_count i) s u (slots_fit i u k.fits) past));
    }

-- what is found in a part is in the row of a course of the part
in_row : (C : Type 0) (p : ℕ → Bool) (wanted : Placed → Bool) (t : List Placed) → list_any wanted (filter (λ l. p l.course) t) ≡ true → ((c : ℕ) → p c ≡ true → list_any wanted (course_row c t) ≡ true → C) → C
in_row C p wanted [] e then = cc
in_row C p wanted (x ∷ xs) e then = elim (cases_Bool (p x.course)) [
  | inl y ↦ (
      let e' : (wanted x || list_any wanted (filter (λ l. p l.course) xs)) ≡ true = rw y at e in
      elim (or_cases (wanted x) (list_any wanted (filter (λ l. p l.course) xs)) e') [
        | inl here ↦ then x.course y (own here)
        | inr more ↦ in_row C p wanted xs more (λ c k found. then c k (longer c found))
      ])
  | inr n ↦ (let e' : list_any wanted (filter (λ l. p l.course) xs) ≡ true = rw n at e in in_row C p wanted xs e' (λ c k found. then c k (longer c found)))
]
  where
    own : wanted x ≡ true → list_any wanted (course_row x.course (x ∷ xs)) ≡ true
    own here = rw (eq-eqb x.course x.course refl) (or_left (wanted x) (list_any wanted (course_row x.course xs)) here)

    longer : (c : ℕ) → list_any wanted (course_row c xs) ≡ true → list_any wanted (course_row c (x ∷ xs)) ≡ true
    longer c found = elim (cases_Bool (eqb x.course c)) [ inl b ↦ rw b (or_right (wanted x) (list_any wanted (course_row c xs)) found) | inr b ↦ rw b found ]

-- and what is in such a row is in the part
in_whole : (wanted test : Placed → Bool) (ls : List Placed) → list_any wanted (filter test ls) ≡ true → list_any wanted ls ≡ true
in_whole wanted test [] e = e
in_whole wanted test (x ∷ xs) e = elim (cases_Bool (test x)) [
  | inl y ↦ (
      let e' : (wanted x || list_any wanted (filter test xs)) ≡ true = rw y at e in
      elim (or_cases (wanted x) (list_any wanted (filter test xs)) e') [
        | inl here ↦ or_left (wanted x) (list_any wanted xs) here
        | inr more ↦ or_right (wanted x) (list_any wanted xs) (in_whole wanted test xs more)
      ])
  | inr n ↦ (let e' : list_any wanted (filter test xs) ≡ true = rw n at e in or_right (wanted x) (list_any wanted xs) (in_whole wanted test xs e'))
]

in_part : (p : ℕ → Bool) (wanted : Placed → Bool) (c : ℕ) (t : List Placed) → p c ≡ true → list_any wanted (course_row c t) ≡ true → list_any wanted (filter (λ l. p l.course) t) ≡ true
in_part p wanted c t y found =
    in_whole wanted (λ l. l.course == c) (filter (λ l. p l.course) t)
    (ap (list_any wanted) (filter_within (λ l. l.course == c) (λ l. p l.course) t (λ l same. ap p (eqb-true l.course c same) ∙ y)) ∙ found)

-- the lectures of the courses that pass are those of their rows
pub same_part : (p : ℕ → Bool) (t u : List Placed) → Ascending t → Ascending u → ((c : ℕ) → p c ≡ true → course_row c t ≡ course_row c u) → filter (λ l. p l.course) t ≡ filter (λ l. p l.course) u
same_part p t u h k rows =
    one_list (filter (λ l. p l.course) t) (filter (λ l. p l.course) u)
    (Pairwise-filter (λ a b. before a b ≡ true) (λ l. p l.course) t h) (Pairwise-filter (λ a b. before a b ≡ true) (λ l. p l.course) u k)
    (λ wanted. both_ways (list_any wanted (filter (λ l. p l.course) t)) (list_any wanted (filter (λ l. p l.course) u))
    (goes t u rows wanted) (goes u t (λ c y. sym (rows c y)) wanted))
  where
    goes : (v w : List Placed) → ((c : ℕ) → p c ≡ true → course_row c v ≡ course_row c w) → (wanted : Placed → Bool) → list_any wanted (filter (λ l. p l.course) v) ≡ true → list_any wanted (filter (λ l. p l.course) w) ≡ true
    goes v w same wanted e = in_row (list_any wanted (filter (λ l. p l.course) w) ≡ true) p wanted v e (λ c y found. in_part p wanted c w y (ap (list_any wanted) (sym (same c y)) ∙ found))
