-- The pairs of lectures that conflict, course by course.
use Rattle.std.proofs.Common.{◌≡◌, ℕ, ◌+◌, ◌<◌, Bool, true, false, cond, ◌&&◌, ◌||◌, not, ◌==◌, nat_lt, List, [], ◌∷◌, ◌++◌, refl, ◌∙◌, sym, ap, ap₂, subst, arith}
use Rattle.std.specs.List.{sum_by, count_by, AllByRecursion as Each}
use Rattle.std.proofs.lemmas.Bool.{eqb-true, ne_eqb}
use Rattle.std.proofs.lemmas.Bool.Decides.{nat_tests}
use Rattle.std.proofs.lemmas.List.{append_assoc}
use Rattle.std.proofs.lemmas.List.Sums.{sum_by-cons, sum_by-append}
use Rattle.ctt_problem.specs.Lists.{Pairwise, sum_below}
use Rattle.ctt_problem.specs.Problem.{Problem, course_count, course_of, clash, mates}
use Rattle.ctt_problem.specs.Timetable.{IsTimetable, Ascending, before, course_row}
use Rattle.ctt_problem.specs.declared.placed.Placed.{Placed}
use Rattle.ctt_rules.specs.Hard.{conflicts, conflict_count}
use Rattle.ctt_rules.specs.Earlier.{tally, new_conflicts}
use Rattle.ctt_rules.specs.Neighbours.{busy}
use Rattle.ctt_rules.proofs.ConflictLemmas.{conflicts_tallied}
use Rattle.ctt_rules.proofs.SumLemmas.{sum_below_same, sum_below_add, sum_below_zero, sum_by-agree}
use Rattle.ctt_rules.proofs.TimetableLemmas.{courses_fit, row_by_slot}
use Rattle.ctt_findings.specs.Findings.{cause, conflict_finding, conflicts_between, conflicts_of, conflict_findings}
use Rattle.ctt_findings.specs.declared.finding.Finding.TheVariants.{Conflict}
use Rattle.ctt_findings.proofs.PointLemmas.{worth, found_worth, worth_map, worth_each, worth_passing, passing_rows}

-- the order of two sums can be exchanged
sum_turn : {X : Type 0} (f : ℕ → X → ℕ) (n : ℕ) (xs : List X) → sum_below (λ c. sum_by (f c) xs) n ≡ sum_by (λ x. sum_below (λ c. f c x) n) xs
sum_turn f n [] = sum_below_zero (λ c. 0) n (λ c lt. refl)
sum_turn f n (x ∷ xs) =
    sum_below_same (λ c. sum_by (f c) (x ∷ xs)) (λ c. f c x + sum_by (f c) xs) n (λ c. sum_by-cons (f c) x xs)
    ∙ sum_below_add (λ c. f c x) (λ c. sum_by (f c) xs) n
    ∙ ap (λ k. sum_below (λ c. f c x) n + k) (sum_turn f n xs)
    ∙ sym (sum_by-cons (λ y. sum_below (λ c. f c y) n) x xs)

-- at most one lecture of a row is in a slot
none_later : (s : ℕ) (x : Placed) (xs : List Placed) → (x.slot == s) ≡ true → Each (λ (y : Placed). x.slot < y.slot) xs → count_by (λ y. y.slot == s) xs ≡ 0
none_later s x [] e h = refl
none_later s x (y ∷ ys) e h =
    let other : (y.slot == s) ≡ false = ne_eqb y.slot s (λ same. omega (arith, eqb-true x.slot s e, h.0, same)) in
    omega (arith, ap (λ b. cond {A = ℕ} b 1 0) other, sum_by-cons (λ (z : Placed). cond (z.slot == s) 1 0) y ys, none_later s x ys e h.1)

one_there : (s : ℕ) (xs : List Placed) → Pairwise (λ (a b : Placed). a.slot < b.slot) xs → count_by (λ x. x.slot == s) xs ≡ cond (busy xs s) 1 0
one_there s [] h = refl
one_there s (x ∷ xs) h = sum_by-cons (λ (z : Placed). cond (z.slot == s) 1 0) x xs ∙ one (x.slot == s) refl (one_there s xs h.1)
  where
    one : (b : Bool) → (x.slot == s) ≡ b → count_by (λ (y : Placed). y.slot == s) xs ≡ cond {A = ℕ} (busy xs s) 1 0 → cond b 1 0 + count_by (λ (y : Placed). y.slot == s) xs ≡ cond {A = ℕ} (b || busy xs s) 1 0
    one true e more = omega (arith, none_later s x xs e h.0)
    one false e more = omega (arith, more)

-- x is in conflict with y, and its course has the lower number
abbrev meets : Problem → Placed → Placed → Bool
meets i y x = nat_lt x.course y.course && conflicts i x y

-- an element of a list, and its relation to the elements before and after it
middle : {X : Type 0} (P : X → Type 0) (xs : List X) (y : X) (ys : List X) → Each P (xs ++ y ∷ ys) → P y
middle P [] y ys h = h.0
middle P (x ∷ xs) y ys h = middle P xs y ys h.1

before_it : {X : Type 0} (R : X → X → Type 0) (xs : List X) (y : X) (ys : List X) → Pairwise R (xs ++ y ∷ ys) → Each (λ x. R x y) xs
before_it R [] y ys h = tt
before_it R (x ∷ xs) y ys h = (middle (R x) xs y ys h.0, before_it R xs y ys h.1)

behind_it : {X : Type 0} (R : X → X → Type 0) (xs : List X) (y : X) (ys : List X) → Pairwise R (xs ++ y ∷ ys) → Each (R y) ys
behind_it R [] y ys h = h.0
behind_it R (x ∷ xs) y ys h = behind_it R xs y ys h.1

module _ (i : Problem) (y : Placed) where
  earlier : (xs : List Placed) → Each (λ x. before x y ≡ true) xs → count_by (meets i y) xs ≡ count_by (λ x. conflicts i x y) xs
  earlier [] h = refl
  earlier (x ∷ xs) h =
      sum_by-cons (λ z. cond (meets i y z) 1 0) x xs ∙ ap₂ (λ b n. cond {A = ℕ} b 1 0 + n) (same x h.0) (earlier xs h.1) ∙ sym (sum_by-cons (λ z. cond (conflicts i z y) 1 0) x xs)
    where
      own : (a b c d : ℕ) (e f : Bool) → (nat_lt a b || (a == b && nat_lt c d)) ≡ true → (nat_lt a b && (e && (not (a == b) && f))) ≡ (e && (not (a == b) && f))
      own a b c d e f k = grind (arith, nat_tests)

      same : (x : Placed) → before x y ≡ true → meets i y x ≡ conflicts i x y
      same x k = own x.course y.course x.slot y.slot (x.slot == y.slot) ((course_of i x.course).teacher == (course_of i y.course).teacher || mates i x.course y.course) k

  later : (xs : List Placed) → Each (λ x. before y x ≡ true) xs → count_by (meets i y) xs ≡ 0
  later [] h = refl
  later (x ∷ xs) h =
      omega (arith, ap (λ b. cond {A = ℕ} b 1 0) (not_it x.course y.course y.slot x.slot (conflicts i x y) h.0), sum_by-cons (λ z. cond (meets i y z) 1 0) x xs, later xs h.1)
    where
      not_it : (a b c d : ℕ) (e : Bool) → (nat_lt b a || (b == a && nat_lt c d)) ≡ true → (nat_lt a b && e) ≡ false
      not_it a b c d e k = grind (arith, nat_tests)

-- each pair is counted once, at its later lecture
pairs_from : (i : Problem) (front t : List Placed) → Ascending (front ++ t) → sum_by (λ y. count_by (meets i y) (front ++ t)) t ≡ tally (new_conflicts i) front t
pairs_from i front [] h = refl
pairs_from i front (y ∷ ys) h =
    let all : List Placed = front ++ y ∷ ys in
    let same : (front ++ y ∷ []) ++ ys ≡ all = append_assoc front (y ∷ []) ys in
    let own : (nat_lt y.course y.course && conflicts i y y) ≡ false = not_itself y.course (conflicts i y y) in
    let here : count_by (meets i y) all ≡ new_conflicts i front y =
    sum_by-append (λ z. cond (meets i y z) 1 0) front (y ∷ ys)
    ∙ ap₂ (λ m n. m + n) (earlier i y front (before_it (λ a b. before a b ≡ true) front y ys h))
    (sum_by-cons (λ z. cond (meets i y z) 1 0) y ys ∙ ap₂ (λ b n. cond {A = ℕ} b 1 0 + n) own (later i y ys (behind_it (λ a b. before a b ≡ true) front y ys h)))
    ∙ omega arith in
    let rest : sum_by (λ z. count_by (meets i z) all) ys ≡ tally (new_conflicts i) (front ++ y ∷ []) ys =
    subst (λ (w : List Placed). sum_by (λ z. count_by (meets i z) w) ys ≡ tally (new_conflicts i) (front ++ y ∷ []) ys) same (pairs_from i (front ++ y ∷ []) ys (subst (λ (w : List Placed). Ascending w) (sym same) h)) in
    sum_by-cons (λ z. count_by (meets i z) all) y ys ∙ ap₂ (λ m n. m + n) here rest
  where
    not_itself : (a : ℕ) (e : Bool) → (nat_lt a a && e) ≡ false
    not_itself a e = grind (arith, nat_tests)

module _ (i : Problem) (t : List Placed) (h : IsTimetable i t) where
  abbrev clashes_behind : ℕ → ℕ → Bool
  clashes_behind c d = nat_lt c d && clash i c d

  abbrev shared : ℕ → Placed → ℕ
  shared c y = cond (busy (course_row c t) y.slot) 1 0

  between : (c d : ℕ) → worth (conflicts_between i t c d) ≡ sum_by (shared c) (course_row d t)
  between c d = worth_map (conflict_finding i c (busy (course_row c t))) (shared c) (λ l. found_worth (busy (course_row c t) l.slot) (Conflict c l.course l.slot (cause i c l.course))) (course_row d t)

  of_course : (c : ℕ) → worth (conflicts_of i t c) ≡ sum_by (λ y. cond (clashes_behind c y.course) (shared c y) 0) t
  of_course c =
      worth_passing (clashes_behind c) (conflicts_between i t c) (course_count i)
      ∙ sum_below_same (λ d. cond (clashes_behind c d) (worth (conflicts_between i t c d)) 0) (λ d. cond (clashes_behind c d) (sum_by (shared c) (course_row d t)) 0) (course_count i) (λ d. ap (λ n. cond (clashes_behind c d) n 0) (between c d))
      ∙ passing_rows (clashes_behind c) (shared c) (course_count i) t (courses_fit i t h)

  -- the lectures of lower courses that conflict with one, course by course
  met : (y : Placed) → sum_below (λ c. cond (clashes_behind c y.course) (shared c y) 0) (course_count i) ≡ count_by (meets i y) t
  met y =
      sum_below_same (λ c. cond (clashes_behind c y.course) (shared c y) 0) (λ c. cond (clashes_behind c y.course) (sum_by (λ x. cond (x.slot == y.slot) 1 0) (course_row c t)) 0) (course_count i)
      (λ c. ap (λ n. cond (clashes_behind c y.course) n 0) (sym (one_there y.slot (course_row c t) (row_by_slot c t h.ascending))))
      ∙ passing_rows (λ c. clashes_behind c y.course) (λ x. cond (x.slot == y.slot) 1 0) (course_count i) t (courses_fit i t h)
      ∙ sum_by-agree (λ x. cond (clashes_behind x.course y.course) (cond (x.slot == y.slot) 1 0) 0) (λ x. cond (meets i y x) 1 0) (λ x. turn (nat_lt x.course y.course) (clash i x.course y.course) (x.slot == y.slot)) t
    where
      turn : (a b c : Bool) → cond (a && b) (cond c 1 0) 0 ≡ cond {A = ℕ} (a && (c && b)) 1 0
      turn true true c = by c
        where
          by : (c : Bool) → cond c 1 0 ≡ cond {A = ℕ} (c && true) 1 0
          by true = refl
          by false = refl
      turn true false c = by c
        where
          by : (c : Bool) → 0 ≡ cond {A = ℕ} (c && false) 1 0
          by true = refl
          by false = refl
      turn false b c = refl

  pub conflicts_counted : worth (conflict_findings i t) ≡ conflict_count i t
  conflicts_counted =
      worth_each (conflicts_of i t) (course_count i)
      ∙ sum_below_same (λ c. worth (conflicts_of i t c)) (λ c. sum_by (λ y. cond (clashes_behind c y.course) (shared c y) 0) t) (course_count i) of_course
      ∙ sum_turn (λ c y. cond (clashes_behind c y.course) (shared c y) 0) (course_count i) t
      ∙ sum_by-agree (λ y. sum_below (λ c. cond (clashes_behind c y.course) (shared c y) 0) (course_count i)) (λ y. count_by (meets i y) t) met t
      ∙ pairs_from i [] t h.ascending
      ∙ conflicts_tallied i t h.fits
