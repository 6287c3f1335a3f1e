-- Counts corrected for a change are those of the timetable after it.
use Rattle.std.proofs.Common.{◌≡◌, ℕ, ◌+◌, ◌-◌, ◌<◌, ◌≤◌, Bool, true, false, cond, ◌&&◌, ◌||◌, ◌==◌, ltb, List, [], ◌∷◌, ◌++◌, length, refl, ◌∙◌, sym, ap, ap₂, subst, arith, inl, inr}
use Rattle.std.specs.List.{sum_by, count_by, AllByRecursion as Each}
use Rattle.std.proofs.lemmas.Bool.{cases_lt, ne_eqb, lt-ltb, le-ltb}
use Rattle.std.proofs.lemmas.List.Sums.{sum_by-cons, sum_by-append, length-filter}
use Rattle.ctt_problem.specs.Lists.{has}
use Rattle.ctt_problem.specs.Belonging.{curricula_of}
use Rattle.ctt_problem.specs.BitRows.{is_marked_in}
use Rattle.ctt_problem.specs.Problem.{Problem, course_count, room_count, curriculum_count, slot_count, members, day_of, period_of}
use Rattle.ctt_problem.specs.Timetable.{Fits, course_row}
use Rattle.ctt_problem.specs.declared.placed.Placed.{Placed}
use Rattle.ctt_rules.specs.Penalty.{days_of}
use Rattle.ctt_rules.proofs.SlotLemmas.{day_fits}
use Rattle.ctt_rules.proofs.TimetableLemmas.{slots_fit}
use Rattle.ctt_board.proofs.MoreLemmas.{IsMore}
use Rattle.ctt_grid.specs.CostDelta.{on_day, in_room, in_slot, count_in_slot, alone_at, alone_beside, stands_alone, cost_delta}
use Rattle.ctt_grid.specs.Tables.{at}
use Rattle.ctt_grid.specs.Counts.{AreCounts}
use Rattle.ctt_grid.specs.Seen.{Sees, seen, seen_day, seen_room, seen_lectures, seen_curriculum, seen_days, seen_delta}
use Rattle.ctt_grid.specs.declared.counts_after.CountsAfter.{CountsAfter}
use Rattle.ctt_problem.proofs.BelongingLemmas.{curricula_fit}
use Rattle.ctt_problem.proofs.MarkLemmas.{count_below_same}
use Rattle.ctt_grid.proofs.CountedLemmas.{days_counted}
use Rattle.ctt_grid.proofs.OnceLemmas.{number_there}

pub turned_and : (a b : Bool) → (a && b) ≡ (b && a)
turned_and true true = refl
turned_and true false = refl
turned_and false true = refl
turned_and false false = refl

-- equal functions give equal results
alone_same : (i : Problem) (f g : ℕ → ℕ) → ((k : ℕ) → f k ≡ g k) → (s : ℕ) → alone_at i f s ≡ alone_at i g s
alone_same i f g e s = ap₂ (λ b m. cond b 0 m) (ap₂ (λ a b. (ltb 0 (period_of i s) && ltb 0 a) || (ltb (period_of i s + 1) i.periods && ltb 0 b)) (e (s - 1)) (e (s + 1))) (e s)

pub stands_same : (i : Problem) (f g : ℕ → ℕ) → ((k : ℕ) → f k ≡ g k) → (s : ℕ) → stands_alone i f s ≡ stands_alone i g s
stands_same i f g e s = ap (λ b. cond {A = ℕ} b 0 1) (ap₂ (λ a b. (ltb 0 (period_of i s) && ltb 0 a) || (ltb (period_of i s + 1) i.periods && ltb 0 b)) (e (s - 1)) (e (s + 1)))

pub beside_same : (i : Problem) (f g : ℕ → ℕ) → ((k : ℕ) → f k ≡ g k) → (s : ℕ) → alone_beside i f s ≡ alone_beside i g s
beside_same i f g e s = ap₂ (λ a b. cond (ltb 0 (period_of i s)) a 0 + cond (ltb (period_of i s + 1) i.periods) b 0) (alone_same i f g e (s - 1)) (alone_same i f g e (s + 1))

pub sum_by_each : {X : Type 0} (f g : X → ℕ) (xs : List X) → Each (λ x. f x ≡ g x) xs → sum_by f xs ≡ sum_by g xs
sum_by_each f g [] h = refl
sum_by_each f g (x ∷ xs) h = omega (arith, sum_by-cons f x xs, sum_by-cons g x xs, h.0, sum_by_each f g xs h.1)

Each-each : {X : Type 0} (P Q : X → Type 0) → ((x : X) → P x → Q x) → (xs : List X) → Each P xs → Each Q xs
Each-each P Q f [] h = tt
Each-each P Q f (x ∷ xs) h = (f x h.0, Each-each P Q f xs h.1)

pub none_there : (i : Problem) (q : List ℕ) (s : ℕ) (t : List Placed) → slot_count i ≤ s → Each (λ (l : Placed). l.slot < slot_count i) t → count_in_slot q t s ≡ 0
none_there i q s [] le h = refl
none_there i q s (x ∷ xs) le h =
    let lt : x.slot < slot_count i = h.0 in
    let no' : in_slot q s x ≡ false = ap (λ b. has x.course q && b) (ne_eqb x.slot s (λ e. omega (arith, e, lt, le))) ∙ turned_and (has x.course q) false in
    omega (arith, sum_by-cons (λ l. cond (in_slot q s l) 1 0) x xs, none_there i q s xs le h.1, ap (λ b. cond {A = ℕ} b 1 0) no')

module _ (i : Problem) (v : CountsAfter) (t : List Placed) (h : Sees i v t) where
  seen_is : (p : Placed → Bool) (n : ℕ) → n ≡ count_by p h.base → seen v p n ≡ count_by p t
  seen_is p n e = omega (arith, e, h.balance (λ l. cond (p l) 1 0))

  pub day_is : (c d : ℕ) → c < course_count i → d < i.days → seen_day i v c d ≡ count_by (on_day i c d) t
  day_is c d lc ld = seen_is (on_day i c d) (at v.base.now.days c d 0) (h.counts.days.counts c d lc ld)

  room_is : (c r : ℕ) → c < course_count i → r < room_count i → seen_room v c r ≡ count_by (in_room c r) t
  room_is c r lc lr = seen_is (in_room c r) (at v.base.now.rooms c r 0) (h.counts.rooms.counts c r lc lr)

  lectures_is : (c : ℕ) → c < course_count i → seen_lectures v c ≡ length (course_row c t)
  lectures_is c lc = seen_is (λ l. l.course == c) (at v.base.now.lectures 0 c 0) (h.counts.lectures.counts 0 c (omega arith) lc ∙ length-filter (λ l. l.course == c) h.base) ∙ sym (length-filter (λ l. l.course == c) t)

  days_is : (c : ℕ) → c < course_count i → seen_days i v c ≡ days_of i (course_row c t)
  days_is c lc = count_below_same (λ d. ltb 0 (seen_day i v c d)) (λ d. ltb 0 (count_by (on_day i c d) t)) i.days (λ d ld. ap (ltb 0) (day_is c d lc ld)) ∙ sym (days_counted i c t)

  pub curriculum_is : Each (Fits i) t → (q : ℕ) → q < curriculum_count i → (s : ℕ) → seen_curriculum i v q s ≡ count_in_slot (members i q) t s
  curriculum_is fit q lq s = elim (cases_lt s (slot_count i)) [
    | inl lt ↦ rw (lt-ltb s (slot_count i) lt) (seen_is (in_slot (members i q) s) (cond (is_marked_in v.base.now.curricula q s) 1 0) (number_there i h.base q s (is_marked_in v.base.now.curricula q s) h.lawful lq (h.counts.curricula.slots q s lq)))
    | inr le ↦ rw (le-ltb s (slot_count i) le) (sym (none_there i (members i q) s t le (slots_fit i t fit)))
  ]

  pub delta_is : (l : Placed) → Fits i l → Each (Fits i) t → seen_delta i v l ≡ cost_delta i t l
  delta_is l fits fit =
      let qs : List ℕ = curricula_of i l.course in
      let known : Each (λ q. q < curriculum_count i) qs = curricula_fit i l.course qs refl in
      let alone = sum_by_each (λ q. stands_alone i (seen_curriculum i v q) l.slot) (λ q. stands_alone i (count_in_slot (members i q) t) l.slot) qs (Each-each (λ q. q < curriculum_count i) (λ q. stands_alone i (seen_curriculum i v q) l.slot ≡ stands_alone i (count_in_slot (members i q) t) l.slot) (λ q lt. stands_same i (seen_curriculum i v q) (count_in_slot (members i q) t) (curriculum_is fit q lt) l.slot) qs known) in
      let lone_neighbours = sum_by_each (λ q. alone_beside i (seen_curriculum i v q) l.slot) (λ q. alone_beside i (count_in_slot (members i q) t) l.slot) qs (Each-each (λ q. q < curriculum_count i) (λ q. alone_beside i (seen_curriculum i v q) l.slot ≡ alone_beside i (count_in_slot (members i q) t) l.slot) (λ q lt. beside_same i (seen_curriculum i v q) (count_in_slot (members i q) t) (curriculum_is fit q lt) l.slot) qs known) in
      rw (day_is l.course (day_of i l.slot) fits.0 (day_fits i l.slot fits.1), days_is l.course fits.0, lectures_is l.course fits.0, room_is l.course l.room fits.0 fits.2, alone, lone_neighbours) refl

-- a lecture is added
pub sees_added : (i : Problem) (l : Placed) (t u : List Placed) (v w : CountsAfter) → IsMore l t u → Sees i v t → w.base.now ≡ v.base.now → w.removed.items ≡ v.removed.items → w.added.items ≡ v.added.items ++ l ∷ [] → Sees i w u
sees_added i l t u v w more h counts removed added = record {
  base = h.base;
  lawful = h.lawful;
  counts = subst (λ x. AreCounts i h.base x) (sym counts) h.counts;
  balance = λ f. omega (arith, more f, h.balance f, ap (sum_by f) removed, ap (sum_by f) added ∙ sum_by-append f v.added.items (l ∷ []), sum_by-cons f l []);
}

-- a lecture is removed
pub sees_removed : (i : Problem) (l : Placed) (t u : List Placed) (v w : CountsAfter) → IsMore l u t → Sees i v t → w.base.now ≡ v.base.now → w.added.items ≡ v.added.items → w.removed.items ≡ v.removed.items ++ l ∷ [] → Sees i w u
sees_removed i l t u v w more h counts added removed = record {
  base = h.base;
  lawful = h.lawful;
  counts = subst (λ x. AreCounts i h.base x) (sym counts) h.counts;
  balance = λ f. omega (arith, more f, h.balance f, ap (sum_by f) added, ap (sum_by f) removed ∙ sum_by-append f v.removed.items (l ∷ []), sum_by-cons f l []);
}
