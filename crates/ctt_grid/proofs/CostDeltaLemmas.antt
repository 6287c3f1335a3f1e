-- What adding one lecture does to the penalty.
use Rattle.std.proofs.Common.{◌≡◌, ℕ, zero, suc, ◌+◌, ◌-◌, ◌*◌, ◌<◌, ◌≤◌, Bool, true, false, cond, ◌&&◌, ◌||◌, ◌==◌, ltb, List, [], ◌∷◌, length, take, get_or, refl, ◌∙◌, sym, ap, ap₂, arith, inl, inr}
use Rattle.std.specs.List.{sum_by, count_by, list_any, AllByRecursion as Each}
use Rattle.std.proofs.lemmas.Bool.{cases_Bool, cases_eq, eq-eqb, lt-ltb, ltb-true, ltb-false}
use Rattle.std.proofs.lemmas.Bool.Decides.{nat_tests}
use Rattle.std.proofs.lemmas.List.{take_all}
use Rattle.std.proofs.lemmas.List.Sums.{sum_by-cons, sum_by-append, sum_by_more}
use Rattle.ctt_problem.specs.Lists.{has, below, sum_below}
use Rattle.ctt_problem.specs.Problem.{Problem, course_of, course_count, room_count, slot_count, members, day_of, period_of}
use Rattle.ctt_problem.specs.Belonging.{curricula_of}
use Rattle.ctt_problem.specs.Timetable.{Fits, course_row}
use Rattle.ctt_problem.specs.declared.placed.Placed.{Placed}
use Rattle.ctt_rules.specs.Penalty.{unseated, days_of, rooms_of, days_cost, rooms_cost, lectures_of, alone_cost}
use Rattle.ctt_rules.proofs.SlotLemmas.{day_fits}
use Rattle.ctt_problem.proofs.TimetableLemmas.{Each-map}
use Rattle.ctt_rules.proofs.ListLemmas.{Each-filter}
use Rattle.ctt_rules.proofs.TimetableLemmas.{slots_fit}
use Rattle.ctt_rules.proofs.SumLemmas.{sum_below_same, sum_below_zero}
use Rattle.ctt_board.proofs.MoreLemmas.{IsMore, counted_more}
use Rattle.ctt_grid.specs.CostDelta.{on_day, in_room, in_slot, count_in_slot, alone_at, alone_beside, stands_alone, cost_delta, DiffersBy}
use Rattle.ctt_grid.proofs.CountedLemmas.{one_more, one_term, days_counted, rooms_counted}
use Rattle.ctt_grid.proofs.AloneLemmas.{one_more_alone, alone_counted}

-- a sum over those elements that pass, by their numbers
sum_by_numbers : {X : Type 0} (p : X → Bool) (f : X → ℕ) (d : X) (xs : List X) (n : ℕ) → n ≤ length xs → sum_by (λ x. cond (p x) (f x) 0) (take n xs) ≡ sum_by (λ k. f (get_or xs k d)) (below (λ k. p (get_or xs k d)) n)
sum_by_numbers p f d xs zero lt = refl
sum_by_numbers p f d xs (suc n) lt =
    let x = get_or xs n d in
    let e : suc n ≡ n + 1 = omega arith in
    ap (λ m. sum_by (λ x. cond (p x) (f x) 0) (take m xs)) e
    ∙ sum_by_more (λ x. cond (p x) (f x) 0) xs n d (omega (arith, lt))
    ∙ ap₂ (λ a b. a + b) (sum_by_numbers p f d xs n (omega (arith, lt))) (one (p x) n)
    ∙ sym (sum_by-append (λ k. f (get_or xs k d)) (below (λ k. p (get_or xs k d)) n) (cond (p x) (n ∷ []) []))
  where
    one : (b : Bool) (n : ℕ) → cond b (f (get_or xs n d)) 0 ≡ sum_by (λ k. f (get_or xs k d)) (cond b (n ∷ []) [])
    one true n = omega (arith, sum_by-cons (λ k. f (get_or xs k d)) n [])
    one false n = refl

sum_by_balance : {X : Type 0} (a b c d : X → ℕ) (xs : List X) → ((x : X) → a x + b x ≡ c x + d x) → sum_by a xs + sum_by b xs ≡ sum_by c xs + sum_by d xs
sum_by_balance a b c d [] h = refl
sum_by_balance a b c d (x ∷ xs) h = omega (arith, sum_by_balance a b c d xs h, h x, sum_by-cons a x xs, sum_by-cons b x xs, sum_by-cons c x xs, sum_by-cons d x xs)

-- a term is at most its sum
at_least : (f : ℕ → ℕ) (k n : ℕ) → k < n → f k ≤ sum_below f n
at_least f k zero lt = absurd (omega (arith, lt))
at_least f k (suc n) lt = elim (cases_eq k n) [
  | inl same ↦ (let e : f k ≡ f n = ap f same in omega (arith, e))
  | inr other ↦ omega (arith, at_least f k n (omega (arith, lt, other)))
]

sum_by_twice : {X : Type 0} (f : X → ℕ) (xs : List X) → sum_by (λ x. 2 * f x) xs ≡ 2 * sum_by f xs
sum_by_twice f [] = refl
sum_by_twice f (x ∷ xs) = omega (arith, sum_by_twice f xs, sum_by-cons (λ x. 2 * f x) x xs, sum_by-cons f x xs)

module _ (i : Problem) (l : Placed) (t u : List Placed) (more : IsMore l t u) (fits : Fits i l) where
  abbrev c : ℕ
  c = l.course

  -- a course that the lecture is not of
  other_course : (p : ℕ → Placed → Bool) (d : ℕ) → (d == c) ≡ false → count_by (λ x. x.course == d && p d x) u ≡ count_by (λ x. x.course == d && p d x) t
  other_course p d e = counted_more l t u more (λ x. x.course == d && p d x) ∙ no_more (ap (λ b. b && p d l) turned)
    where
      turned : (l.course == d) ≡ false
      turned = grind (arith, nat_tests, e)

      no_more : (l.course == d && p d l) ≡ false → cond (l.course == d && p d l) 1 0 + count_by (λ x. x.course == d && p d x) t ≡ count_by (λ x. x.course == d && p d x) t
      no_more h = rw h (omega arith)

  -- the days of its course
  on_days : (d : ℕ) → count_by (on_day i c d) u ≡ cond (d == day_of i l.slot) 1 0 + count_by (on_day i c d) t
  on_days d = counted_more l t u more (on_day i c d) ∙ ap (λ b. cond b 1 0 + count_by (on_day i c d) t) test
    where
      test : (l.course == c && day_of i l.slot == d) ≡ (d == day_of i l.slot)
      test = grind (arith, nat_tests)

  more_days : days_of i (course_row c u) ≡ days_of i (course_row c t) + cond (count_by (on_day i c (day_of i l.slot)) t == 0) 1 0
  more_days =
      days_counted i c u ∙ one_more (λ d. count_by (on_day i c d) t) (λ d. count_by (on_day i c d) u) (day_of i l.slot) i.days on_days (day_fits i l.slot fits.1)
      ∙ ap (λ n. n + cond (count_by (on_day i c (day_of i l.slot)) t == 0) 1 0) (sym (days_counted i c t))

  same_used : (d : ℕ) → (d == c) ≡ false → days_of i (course_row d u) ≡ days_of i (course_row d t)
  same_used d e = days_counted i d u ∙ sum_below_same (λ k. cond (ltb 0 (count_by (on_day i d k) u)) 1 0) (λ k. cond (ltb 0 (count_by (on_day i d k) t)) 1 0) i.days each ∙ sym (days_counted i d t)
    where
      each : (k : ℕ) → cond (ltb 0 (count_by (on_day i d k) u)) 1 0 ≡ cond {A = ℕ} (ltb 0 (count_by (on_day i d k) t)) 1 0
      each k = ap (λ n. cond {A = ℕ} (ltb 0 n) 1 0) (other_course (λ d x. day_of i x.slot == k) d e)

  same_days : (d : ℕ) → (d == c) ≡ false → days_cost i d (course_row d u) ≡ days_cost i d (course_row d t)
  same_days d e = ap (λ n. 5 * ((course_of i d).min_days - n)) (same_used d e)

  pub days_differ : sum_below (λ c. days_cost i c (course_row c u)) (course_count i) + (cost_delta i t l).day ≡ sum_below (λ c. days_cost i c (course_row c t)) (course_count i)
  days_differ = omega (
    arith,
    one_term (λ c. days_cost i c (course_row c u)) (λ c. days_cost i c (course_row c t)) c (course_count i) (cost_delta i t l).day 0 same_days fits.0
        (by (count_by (on_day i c (day_of i l.slot)) t == 0) (days_of i (course_row c t)) (days_of i (course_row c u)) (course_of i c).min_days more_days),
  )
    where
      by : (b : Bool) (n m least : ℕ) → m ≡ n + cond b 1 0 → 5 * (least - m) + cond (b && ltb n least) 5 0 ≡ 5 * (least - n) + 0
      by true n m least e = grind (arith, nat_tests)
      by false n m least e = omega (arith, e)

  -- its rooms
  in_rooms : (r : ℕ) → count_by (in_room c r) u ≡ cond (r == l.room) 1 0 + count_by (in_room c r) t
  in_rooms r = counted_more l t u more (in_room c r) ∙ ap (λ b. cond b 1 0 + count_by (in_room c r) t) test
    where
      test : (l.course == c && l.room == r) ≡ (r == l.room)
      test = grind (arith, nat_tests)

  more_rooms : rooms_of i (course_row c u) ≡ rooms_of i (course_row c t) + cond (count_by (in_room c l.room) t == 0) 1 0
  more_rooms =
      rooms_counted i c u ∙ one_more (λ r. count_by (in_room c r) t) (λ r. count_by (in_room c r) u) l.room (room_count i) in_rooms fits.2
      ∙ ap (λ n. n + cond (count_by (in_room c l.room) t == 0) 1 0) (sym (rooms_counted i c t))

  same_rooms : (d : ℕ) → (d == c) ≡ false → rooms_cost i (course_row d u) ≡ rooms_cost i (course_row d t)
  same_rooms d e = ap (λ n. n - 1) (rooms_counted i d u ∙ sum_below_same (λ k. cond (ltb 0 (count_by (in_room d k) u)) 1 0) (λ k. cond (ltb 0 (count_by (in_room d k) t)) 1 0) (room_count i) each ∙ sym (rooms_counted i d t))
    where
      each : (k : ℕ) → cond (ltb 0 (count_by (in_room d k) u)) 1 0 ≡ cond {A = ℕ} (ltb 0 (count_by (in_room d k) t)) 1 0
      each k = ap (λ n. cond {A = ℕ} (ltb 0 n) 1 0) (other_course (λ d x. x.room == k) d e)

  -- a course has rooms if it has lectures
  some_rooms : (ls : List Placed) → Each (λ (x : Placed). x.room < room_count i) ls → ltb 0 (rooms_of i ls) ≡ ltb 0 (length ls)
  some_rooms [] h = ap (ltb 0) (sum_below_zero (λ r. 0) (room_count i) (λ r lt. refl))
  some_rooms (x ∷ xs) h = lt-ltb 0 (rooms_of i (x ∷ xs)) (omega (arith, at_least (λ r. cond (list_any (λ y. y.room == r) (x ∷ xs)) 1 0) x.room (room_count i) h.0, one)) ∙ sym (lt-ltb 0 (length (x ∷ xs)) (omega arith))
    where
      one : cond {A = ℕ} (list_any (λ y. y.room == x.room) (x ∷ xs)) 1 0 ≡ 1
      one = ap (λ b. cond {A = ℕ} (b || list_any (λ y. y.room == x.room) xs) 1 0) (eq-eqb x.room x.room refl)

  pub stability_differs : Each (λ (x : Placed). x.room < room_count i) (course_row c t) → sum_below (λ c. rooms_cost i (course_row c u)) (course_count i) ≡ sum_below (λ c. rooms_cost i (course_row c t)) (course_count i) + (cost_delta i t l).room
  stability_differs h = omega (
    arith,
    one_term (λ c. rooms_cost i (course_row c u)) (λ c. rooms_cost i (course_row c t)) c (course_count i) 0 (cost_delta i t l).room same_rooms fits.0
        (by (count_by (in_room c l.room) t == 0) (ltb 0 (length (course_row c t))) (rooms_of i (course_row c t)) (rooms_of i (course_row c u)) more_rooms (some_rooms (course_row c t) h)),
  )
    where
      by : (b some : Bool) (n m : ℕ) → m ≡ n + cond b 1 0 → ltb 0 n ≡ some → (m - 1) + 0 ≡ (n - 1) + cond (b && some) 1 0
      by true true n m e k = omega (arith, e, ltb-true 0 n k)
      by true false n m e k = omega (arith, e, ltb-false 0 n k)
      by false some n m e k = omega (arith, e)

  -- its curricula
  with_it : (q : List ℕ) → has c q ≡ true → (k : ℕ) → count_in_slot q u k ≡ cond (k == l.slot) 1 0 + count_in_slot q t k
  with_it q e k = counted_more l t u more (in_slot q k) ∙ ap (λ b. cond b 1 0 + count_in_slot q t k) (ap (λ b. b && l.slot == k) e ∙ turned)
    where
      turned : (l.slot == k) ≡ (k == l.slot)
      turned = grind (arith, nat_tests)

  without_it : (q : List ℕ) → has c q ≡ false → (k : ℕ) → count_in_slot q u k ≡ count_in_slot q t k
  without_it q e k = omega (arith, counted_more l t u more (in_slot q k) ∙ ap (λ b. cond (b && l.slot == k) 1 0 + count_in_slot q t k) e)

  module _ (t_fits : Each (λ (x : Placed). x.slot < slot_count i) t) (u_fits : Each (λ (x : Placed). x.slot < slot_count i) u) where
    one_curriculum : (q : List ℕ) → alone_cost i (lectures_of q u) + cond (has c q) (2 * alone_beside i (count_in_slot q t) l.slot) 0 ≡ alone_cost i (lectures_of q t) + cond (has c q) (2 * stands_alone i (count_in_slot q t) l.slot) 0
    one_curriculum q = elim (cases_Bool (has c q)) [
      | inl y ↦ rw y (omega (arith, alone_counted i q u u_fits, alone_counted i q t t_fits, one_more_alone i (count_in_slot q t) (count_in_slot q u) l.slot (with_it q y) fits.1))
      | inr n ↦ rw n (omega (arith, alone_counted i q u u_fits, alone_counted i q t t_fits, sum_below_same (alone_at i (count_in_slot q u)) (alone_at i (count_in_slot q t)) (slot_count i) (same n)))
    ]
      where
        same : has c q ≡ false → (k : ℕ) → alone_at i (count_in_slot q u) k ≡ alone_at i (count_in_slot q t) k
        same n k = ap₂ (λ b m. cond b 0 m) (ap₂ (λ a b. (ltb 0 (period_of i k) && ltb 0 a) || (ltb (period_of i k + 1) i.periods && ltb 0 b)) (without_it q n (k - 1)) (without_it q n (k + 1))) (without_it q n k)

    its_curricula : (f : List ℕ → ℕ) → sum_by (λ q. cond (has c q) (2 * f q) 0) i.curricula ≡ 2 * sum_by (λ n. f (members i n)) (curricula_of i c)
    its_curricula f =
        ap (sum_by (λ q. cond (has c q) (2 * f q) 0)) (sym (take_all (length i.curricula) i.curricula (omega arith)))
        ∙ sum_by_numbers (λ q. has c q) (λ q. 2 * f q) [] i.curricula (length i.curricula) (omega arith)
        ∙ sum_by_twice (λ n. f (members i n)) (curricula_of i c)

    pub compactness_differs : sum_by (λ q. alone_cost i (lectures_of q u)) i.curricula + (cost_delta i t l).lone_neighbours ≡ sum_by (λ q. alone_cost i (lectures_of q t)) i.curricula + (cost_delta i t l).alone
    compactness_differs =
        ap (λ n. sum_by (λ q. alone_cost i (lectures_of q u)) i.curricula + n) (sym (its_curricula (λ q. alone_beside i (count_in_slot q t) l.slot)))
        ∙ sum_by_balance (λ q. alone_cost i (lectures_of q u)) (λ q. cond (has c q) (2 * alone_beside i (count_in_slot q t) l.slot) 0) (λ q. alone_cost i (lectures_of q t)) (λ q. cond (has c q) (2 * stands_alone i (count_in_slot q t) l.slot) 0) i.curricula one_curriculum
        ∙ ap (λ n. sum_by (λ q. alone_cost i (lectures_of q t)) i.curricula + n) (its_curricula (λ q. stands_alone i (count_in_slot q t) l.slot))

-- all of it
pub differs_by : (i : Problem) (l : Placed) (t u : List Placed) → IsMore l t u → Fits i l → Each (Fits i) t → Each (Fits i) u → DiffersBy i t u (cost_delta i t l)
differs_by i l t u more fits t_fits u_fits =
    let rooms = Each-map (Fits i) (λ (x : Placed). x.room < room_count i) (λ x f. f.2) (course_row l.course t) (Each-filter (Fits i) (λ x. x.course == l.course) t t_fits) in
    let capacity : sum_by (unseated i) u ≡ unseated i l + sum_by (unseated i) t = more (unseated i) in
    record {
      capacity = omega (arith, capacity);
      days = days_differ i l t u more fits;
      compactness = compactness_differs i l t u more fits (slots_fit i t t_fits) (slots_fit i u u_fits);
      stability = stability_differs i l t u more fits rooms;
    }
