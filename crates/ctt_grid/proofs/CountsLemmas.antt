-- The tables of counts after one lecture is added, and after one is removed.
use Rattle.std.proofs.Common.{◌≡◌, ℕ, zero, suc, ◌+◌, ◌<◌, ◌≤◌, Bool, true, false, cond, not, ◌&&◌, ◌||◌, ◌==◌, ltb, List, [], ◌∷◌, length, refl, ◌∙◌, sym, ap, ap₂, arith, inl, inr}
use Rattle.std.specs.List.{count_by}
use Rattle.std.proofs.lemmas.Bool.{cases_eq, eq-eqb, ne_eqb, lt-ltb, le-ltb}
use Rattle.std.proofs.lemmas.Bool.Decides.{nat_tests}
use Rattle.std.proofs.lemmas.List.Sums.{sum_by-append, length-filter}
use Rattle.ctt_problem.specs.Lists.{has, below}
use Rattle.ctt_problem.specs.Belonging.{curricula_of}
use Rattle.ctt_problem.specs.BitRows.{BitTable, is_marked_in, AddsMarks}
use Rattle.ctt_problem.specs.Problem.{Problem, IsProblem, course_count, room_count, curriculum_count, members, day_of}
use Rattle.ctt_problem.specs.Timetable.{Fits, course_row}
use Rattle.ctt_problem.specs.declared.placed.Placed.{Placed}
use Rattle.ctt_rules.specs.Hard.{Lawful}
use Rattle.ctt_rules.proofs.SlotLemmas.{day_fits}
use Rattle.ctt_board.proofs.MoreLemmas.{IsMore, counted_more}
use Rattle.ctt_grid.specs.CostDelta.{on_day, in_room, in_slot, count_in_slot}
use Rattle.ctt_grid.specs.Tables.{Grid, at, AddsAtEach, one_at}
use Rattle.ctt_grid.specs.Counts.{HaveSizes, Counted, AreBusy, AreCounts, AddsLecture, TakesMarks, HaveLecture, in_one_slot}
use Rattle.ctt_grid.specs.declared.counts.Counts.{Counts}
use Rattle.ctt_grid.proofs.CountedLemmas.{any_counted}
use Rattle.ctt_grid.proofs.OnceLemmas.{one_there}

-- each of the numbers that pass occurs once among them
pub named_once : (p : ℕ → Bool) (r n : ℕ) → count_by (λ q. q == r) (below p n) ≡ cond (p r && ltb r n) 1 0
named_once p r zero = rw (le-ltb r 0 (omega arith)) (by (p r))
  where
    by : (b : Bool) → ◌≡◌ {A = ℕ} 0 (cond (b && false) 1 0)
    by true = refl
    by false = refl
named_once p r (suc n) =
    sum_by-append (λ q. cond (q == r) 1 0) (below p n) (cond (p n) (n ∷ []) []) ∙ ap (λ m. m + count_by (λ q. q == r) (cond (p n) (n ∷ []) [])) (named_once p r n)
    ∙ elim (cases_eq n r) [
      | inl same ↦ (
          let now : ltb r (suc n) ≡ true = lt-ltb r (suc n) (omega (arith, same)) in
          let then' : ltb r n ≡ false = le-ltb r n (omega (arith, same)) in
          rw (now, then', ap p same) (here (p r) (eq-eqb n r same)))
      | inr other ↦ (
          let alike : ltb r (suc n) ≡ ltb r n = grind (arith, nat_tests, other) in
          rw alike (there (p n) (cond (p r && ltb r n) 1 0) (ne_eqb n r other)))
    ]
  where
    here : (b : Bool) → (n == r) ≡ true → cond (b && false) 1 0 + count_by (λ q. q == r) (cond b (n ∷ []) []) ≡ cond (b && true) 1 0
    here true e = omega (arith, ap (λ c. cond {A = ℕ} c 1 0) e)
    here false e = refl

    there : (b : Bool) (m : ℕ) → (n == r) ≡ false → m + count_by (λ q. q == r) (cond b (n ∷ []) []) ≡ m
    there true m e = omega (arith, ap (λ c. cond {A = ℕ} c 1 0) e)
    there false m e = omega arith

-- a table with w added
counted_up : (a b : Grid ℕ) (w f g : ℕ → ℕ → ℕ) (rows width : ℕ) → AddsAtEach a b w → ((r k : ℕ) → r < rows → k < width → g r k ≡ w r k + f r k) → Counted a rows width f → Counted b rows width g
counted_up a b w f g rows width adds e h = record {
  size = (adds.rows ∙ h.size.0, adds.width ∙ h.size.1);
  counts = λ r k lr lk. omega (arith, adds.sums r k (omega (arith, lk, h.size.1)), e r k lr lk, h.counts r k lr lk);
}

counted_down : (a b : Grid ℕ) (w f g : ℕ → ℕ → ℕ) (rows width : ℕ) → AddsAtEach a b w → ((r k : ℕ) → r < rows → k < width → g r k ≡ w r k + f r k) → Counted b rows width g → Counted a rows width f
counted_down a b w f g rows width adds e h = record {
  size = (sym adds.rows ∙ h.size.0, sym adds.width ∙ h.size.1);
  counts = λ r k lr lk. omega (arith, adds.sums r k (omega (arith, lk, h.size.1, adds.width)), e r k lr lk, h.counts r k lr lk);
}

module _ (i : Problem) (l : Placed) (t u : List Placed) (more : IsMore l t u) (fits : Fits i l) where
  pub lectures_step : (r k : ℕ) → r < 1 → length (course_row k u) ≡ one_at 0 l.course r k + length (course_row k t)
  lectures_step r k lr = length-filter (λ x. x.course == k) u ∙ counted_more l t u more (λ x. x.course == k) ∙ ap₂ (λ b n. cond b 1 0 + n) test (sym (length-filter (λ x. x.course == k) t))
    where
      test : (l.course == k) ≡ (r == 0 && k == l.course)
      test = grind (arith, nat_tests)

  pub days_step : (r k : ℕ) → count_by (on_day i r k) u ≡ one_at l.course (day_of i l.slot) r k + count_by (on_day i r k) t
  days_step r k = counted_more l t u more (on_day i r k) ∙ ap (λ b. cond b 1 0 + count_by (on_day i r k) t) test
    where
      test : (l.course == r && day_of i l.slot == k) ≡ (r == l.course && k == day_of i l.slot)
      test = grind (arith, nat_tests)

  pub rooms_step : (r k : ℕ) → count_by (in_room r k) u ≡ one_at l.course l.room r k + count_by (in_room r k) t
  rooms_step r k = counted_more l t u more (in_room r k) ∙ ap (λ b. cond b 1 0 + count_by (in_room r k) t) test
    where
      test : (l.course == r && l.room == k) ≡ (r == l.course && k == l.room)
      test = grind (arith, nat_tests)

  -- its curricula, in its slot
  its_slots : (q s : ℕ) → q < curriculum_count i → in_one_slot (curricula_of i l.course) l.slot q s ≡ in_slot (members i q) s l
  its_slots q s lq = ap₂ (λ a b. a && b) (any_counted (λ m. m == q) (curricula_of i l.course) ∙ ap (ltb 0) (named_once (λ q. has l.course (members i q)) q (curriculum_count i)) ∙ by (has l.course (members i q))) turned
    where
      turned : (s == l.slot) ≡ (l.slot == s)
      turned = grind (arith, nat_tests)

      by : (b : Bool) → ltb 0 (cond (b && ltb q (curriculum_count i)) 1 0) ≡ b
      by true = rw (lt-ltb q (curriculum_count i) lq) refl
      by false = refl

  -- the slots of the curricula with the lecture, and without it
  busy_more : (a b : BitTable) → AddsMarks a b (in_one_slot (curricula_of i l.course) l.slot) → AreBusy i t a → AreBusy i u b
  busy_more a b adds h = record {
    size = (adds.size.0 ∙ h.size.0, adds.size.1 ∙ h.size.1);
    slots = λ q s lq. adds.marks q s ∙ ap₂ (λ x y. x || y) (h.slots q s lq ∙ any_counted (in_slot (members i q) s) t) (its_slots q s lq)
        ∙ by (in_slot (members i q) s l) (count_in_slot (members i q) t s) (count_in_slot (members i q) u s) (counted_more l t u more (in_slot (members i q) s)) ∙ sym (any_counted (in_slot (members i q) s) u);
  }
    where
      by : (b : Bool) (n m : ℕ) → m ≡ cond b 1 0 + n → (ltb 0 n || b) ≡ ltb 0 m
      by true n m e = grind (arith, nat_tests, e)
      by false n m e = grind (arith, nat_tests, e)

  busy_less : (a b : BitTable) → Lawful i u → TakesMarks b a (in_one_slot (curricula_of i l.course) l.slot) → AreBusy i u b → AreBusy i t a
  busy_less a b lawful takes h = record {
    size = (takes.size.0 ∙ h.size.0, takes.size.1 ∙ h.size.1);
    slots = λ q s lq. takes.marks q s ∙ ap₂ (λ x y. x && not y) (h.slots q s lq ∙ any_counted (in_slot (members i q) s) u) (its_slots q s lq)
        ∙ by (in_slot (members i q) s l) (count_in_slot (members i q) t s) (count_in_slot (members i q) u s) (counted_more l t u more (in_slot (members i q) s)) (one_there i u q s lawful lq) ∙ sym (any_counted (in_slot (members i q) s) t);
  }
    where
      by : (b : Bool) (n m : ℕ) → m ≡ cond b 1 0 + n → m ≤ 1 → (ltb 0 m && not b) ≡ ltb 0 n
      by true n m e few = grind (arith, nat_tests, e, few)
      by false n m e few = grind (arith, nat_tests, e, few)

  module _ (a b : Counts) (adds : AddsLecture i l a b) where
    pub counts_more : AddsMarks a.curricula b.curricula (in_one_slot (curricula_of i l.course) l.slot) → AreCounts i t a → AreCounts i u b
    counts_more marks h =
        record {
          lectures = counted_up a.lectures b.lectures _ _ _ _ _ adds.lectures (λ r k lr lk. lectures_step r k lr) h.lectures;
          days = counted_up a.days b.days _ _ _ _ _ adds.days (λ r k lr lk. days_step r k) h.days;
          rooms = counted_up a.rooms b.rooms _ _ _ _ _ adds.rooms (λ r k lr lk. rooms_step r k) h.rooms;
          curricula = busy_more a.curricula b.curricula marks h.curricula;
        }

    pub counts_less : Lawful i u → TakesMarks b.curricula a.curricula (in_one_slot (curricula_of i l.course) l.slot) → AreCounts i u b → AreCounts i t a
    counts_less lawful marks h =
        record {
          lectures = counted_down a.lectures b.lectures _ _ _ _ _ adds.lectures (λ r k lr lk. lectures_step r k lr) h.lectures;
          days = counted_down a.days b.days _ _ _ _ _ adds.days (λ r k lr lk. days_step r k) h.days;
          rooms = counted_down a.rooms b.rooms _ _ _ _ _ adds.rooms (λ r k lr lk. rooms_step r k) h.rooms;
          curricula = busy_less a.curricula b.curricula lawful marks h.curricula;
        }

  -- a lecture that is there is counted
  pub have_lecture : (b : Counts) → IsProblem i → AreCounts i u b → HaveLecture i l b
  have_lecture b p h =
      let one : (x y : ℕ) → one_at x y x y ≡ 1 = λ x y. rw (eq-eqb x x refl, eq-eqb y y refl) refl in
      let day = day_fits i l.slot fits.1 in
      record {
        lectures = omega (arith, h.lectures.counts 0 l.course (omega arith) fits.0, lectures_step 0 l.course (omega arith), one 0 l.course);
        days = omega (arith, h.days.counts l.course (day_of i l.slot) fits.0 day, days_step l.course (day_of i l.slot), one l.course (day_of i l.slot));
        rooms = omega (arith, h.rooms.counts l.course l.room fits.0 fits.2, rooms_step l.course l.room, one l.course l.room);
      }

-- tables of zeros are the counts of the empty timetable
abbrev pub IsZero : Grid ℕ → ℕ → ℕ → Type 0
IsZero g rows width = (r k : ℕ) → r < rows → k < width → at g r k 0 ≡ 0

pub none_counted : (i : Problem) (c : Counts) → HaveSizes i c → IsZero c.lectures 1 (course_count i) → IsZero c.days (course_count i) i.days → IsZero c.rooms (course_count i) (room_count i) → ((q s : ℕ) → is_marked_in c.curricula q s ≡ false) → AreCounts i [] c
none_counted i c h lectures days rooms curricula = record {
  lectures = record { size = h.lectures; counts = lectures };
  days = record { size = h.days; counts = days };
  rooms = record { size = h.rooms; counts = rooms };
  curricula = record { size = h.curricula; slots = λ q s _. curricula q s };
}
