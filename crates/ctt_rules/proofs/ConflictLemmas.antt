-- Conflicts and shared rooms, counted lecture by lecture against the earlier ones.
use Rattle.std.proofs.Common.{◌≡◌, ℕ, zero, suc, ◌+◌, ◌-◌, ◌<◌, ◌≤◌, Bool, true, false, cond, not, ◌&&◌, ◌||◌, ◌==◌, ltb, leb, List, [], ◌∷◌, ◌++◌, take, length, get_or, replicate, refl, ◌∙◌, sym, ap, ap₂, arith, inl, inr, append_assoc, append-nil}
use Rattle.std.specs.List.{list_any, AllByRecursion as Each}
use Rattle.std.proofs.lemmas.List.{take_more}
use Rattle.std.proofs.lemmas.List.Sums.{sum_by_push}
use Rattle.std.proofs.lemmas.List.Folds.{list_any_more}
use Rattle.std.proofs.lemmas.Bool.Decides.{nat_tests}
use Rattle.std.proofs.lemmas.Bool.{cases_Bool, lt-ltb, le-ltb, le-leb, leb-true, ltb-true, and_from, and_right, and_parts}
use Rattle.ctt_problem.specs.Lists.{Pairwise, has, count_below}
use Rattle.ctt_problem.specs.Marks.{is_marked, count_marked}
use Rattle.ctt_problem.specs.Problem.{Problem, course_count, course_of, slot_count, mates, clash}
use Rattle.ctt_problem.specs.Timetable.{IsTimetable, Fits, before}
use Rattle.ctt_problem.specs.declared.placed.Placed.{Placed}
use Rattle.ctt_problem.proofs.MarkLemmas.{past_words}
use Rattle.ctt_problem.proofs.TimetableLemmas.{Each-map}
use Rattle.ctt_rules.specs.Hard.{conflicts, conflict_count, share_room, occupancy_count}
use Rattle.ctt_rules.specs.Earlier.{clashes_with, tally, new_conflicts, room_taken, only_in, in_row}
use Rattle.ctt_rules.proofs.ListLemmas.{Each-take, Pairwise-map}
use Rattle.ctt_rules.proofs.CellLemmas.{occupancy_push, none_shared}
use Rattle.ctt_rules.proofs.NeighbourLemmas.{any_same, count_by-same}
use Rattle.ctt_rules.proofs.SumLemmas.{sum_below_same, count_below_le, count_by-cons}
use Rattle.ctt_rules.proofs.WindowLemmas.{counted_apart}

-- clashing is symmetric
eqb_comm : (a b : ℕ) → (a == b) ≡ (b == a)
eqb_comm a b = grind arith

mates_comm : (i : Problem) (c d : ℕ) → mates i c d ≡ mates i d c
mates_comm i c d = any_same (λ q. has c q && has d q) (λ q. has d q && has c q) i.curricula (λ q. turn (has c q) (has d q))
  where
    turn : (a b : Bool) → (a && b) ≡ (b && a)
    turn a b = grind arith

pub clash_comm : (i : Problem) (c d : ℕ) → clash i c d ≡ clash i d c
clash_comm i c d = ap₂ (λ a b. not a && b) (eqb_comm c d) (ap₂ (λ a b. a || b) (eqb_comm (course_of i c).teacher (course_of i d).teacher) (mates_comm i c d))

same_marked : (p q : ℕ → Bool) → ((n : ℕ) → p n ≡ q n) → count_marked p ≡ count_below q 2000
unfolding count_marked
same_marked p q e = sum_below_same (λ n. cond (p n) 1 0) (λ n. cond (q n) 1 0) 2000 (λ n. ap (λ b. cond b 1 0) (e n))

pub marked_same : (p q : ℕ → Bool) → ((n : ℕ) → p n ≡ q n) → count_marked p ≡ count_marked q
unfolding count_marked
marked_same p q e = same_marked p q e

pub few_marked : (p : ℕ → Bool) → count_marked p ≤ 2000
unfolding count_marked
few_marked p = count_below_le p 2000

-- a table of rows in which nothing is marked
pub no_rows : (marks : List ℕ) → ((n : ℕ) → is_marked marks n ≡ false) → (k row n : ℕ) → in_row (replicate k marks) row n ≡ false
no_rows marks none zero row n = past_words [] n (omega arith)
no_rows marks none (suc k) zero n = none n
no_rows marks none (suc k) (suc row) n = no_rows marks none k row n

-- a tally with one more lecture
pub tally_push : (f : List Placed → Placed → ℕ) (before xs : List Placed) (x : Placed) → tally f before (xs ++ x ∷ []) ≡ tally f before xs + f (before ++ xs) x
tally_push f before [] x = rw append-nil (omega arith)
tally_push f before (y ∷ ys) x = omega (arith, tally_push f (before ++ y ∷ []) ys x, ap (λ zs. f zs x) (append_assoc before (y ∷ []) ys))

pub tally_join : (f g h : List Placed → Placed → ℕ) → ((ts : List Placed) (x : Placed) → f ts x + g ts x ≡ h ts x) → (before xs : List Placed) → tally f before xs + tally g before xs ≡ tally h before xs
tally_join f g h e before [] = refl
tally_join f g h e before (x ∷ xs) = omega (arith, e before x, tally_join f g h e (before ++ x ∷ []) xs)

pub tally_agree : (P : Placed → Type 0) (f g : List Placed → Placed → ℕ) → ((ts : List Placed) (x : Placed) → P x → f ts x ≡ g ts x) → (before xs : List Placed) → Each P xs → tally f before xs ≡ tally g before xs
tally_agree P f g e before [] h = refl
tally_agree P f g e before (x ∷ xs) h = ap₂ (λ a b. a + b) (e before x h.0) (tally_agree P f g e (before ++ x ∷ []) xs h.1)

-- a count that each lecture adds to
pub tallied : (P : Placed → Type 0) (g : List Placed → ℕ) (f : List Placed → Placed → ℕ) → ((ts : List Placed) (x : Placed) → P x → g (ts ++ x ∷ []) ≡ g ts + f ts x) → (before xs : List Placed) → Each P xs → g (before ++ xs) ≡ g before + tally f before xs
tallied P g f e before [] h = rw append-nil (omega arith)
tallied P g f e before (x ∷ xs) h = ap g (sym (append_assoc before (x ∷ []) xs)) ∙ omega (arith, tallied P g f e (before ++ x ∷ []) xs h.1, e before x h.0)

from_nothing : (P : Placed → Type 0) (g : List Placed → ℕ) (f : List Placed → Placed → ℕ) → ((ts : List Placed) (x : Placed) → P x → g (ts ++ x ∷ []) ≡ g ts + f ts x) → g [] ≡ 0 → (t : List Placed) → Each P t → tally f [] t ≡ g t
from_nothing P g f e none t h = sym (tallied P g f e [] t h ∙ ap (λ n. n + tally f [] t) none ∙ omega arith)

-- the conflicts with one more lecture
conflicts_push : (i : Problem) (ts : List Placed) (x : Placed) → conflict_count i (ts ++ x ∷ []) ≡ conflict_count i ts + new_conflicts i ts x
conflicts_push i [] x = refl
conflicts_push i (y ∷ ys) x = omega (arith, conflicts_push i ys x, sum_by_push (λ l. cond (conflicts i y l) 1 0) ys x, count_by-cons (λ z. conflicts i z x) y ys)

pub conflicts_tallied : (i : Problem) (t : List Placed) → Each (Fits i) t → tally (new_conflicts i) [] t ≡ conflict_count i t
conflicts_tallied i t h = from_nothing (Fits i) (conflict_count i) (new_conflicts i) (λ ts x _. conflicts_push i ts x) refl t h

pub rooms_tallied : (i : Problem) (t : List Placed) → Each (Fits i) t → tally room_taken [] t ≡ occupancy_count i t
rooms_tallied i t h = from_nothing (Fits i) (occupancy_count i) room_taken (λ ts x f. occupancy_push i ts x f) (none_shared i) t h

-- tallies over blocks of slots
module _ (adds : List Placed → Placed → ℕ) where
  pub block_more : (first end : ℕ) → first ≤ end → (t : List Placed) → tally (only_in 0 first adds) [] t + tally (only_in first end adds) [] t ≡ tally (only_in 0 end adds) [] t
  block_more first end le t = tally_join (only_in 0 first adds) (only_in first end adds) (only_in 0 end adds) (λ ts x. each x.slot (adds ts x)) [] t
    where
      each : (s n : ℕ) → cond (leb 0 s && ltb s first) n 0 + cond (leb first s && ltb s end) n 0 ≡ cond (leb 0 s && ltb s end) n 0
      each s n = grind (arith, nat_tests)

  pub all_blocks : (i : Problem) (t : List Placed) (end : ℕ) → Each (Fits i) t → slot_count i ≤ end → tally (only_in 0 end adds) [] t ≡ tally adds [] t
  all_blocks i t end fits le = tally_agree (Fits i) (only_in 0 end adds) adds (λ ts x f. ap (λ b. cond b (adds ts x) 0) (and_from (leb 0 x.slot) (ltb x.slot end) (le-leb 0 x.slot (omega arith)) (lt-ltb x.slot end (omega (arith, f.1, le))))) [] t fits

  pub no_block : (t before : List Placed) → tally (only_in 0 0 adds) before t ≡ 0
  no_block [] before = refl
  no_block (x ∷ xs) before = ap₂ (λ b n. cond b (adds before x) 0 + n) (and_right (leb 0 x.slot) (ltb x.slot 0) (le-ltb x.slot 0 (omega arith))) (no_block xs (before ++ x ∷ []))

Pairwise-take : {X : Type 0} (R : X → X → Type 0) (n : ℕ) (xs : List X) → Pairwise R xs → Pairwise R (take n xs)
Pairwise-take R zero xs h = tt
Pairwise-take R (suc n) [] h = tt
Pairwise-take R (suc n) (x ∷ xs) h = (Each-take (R x) n xs h.0, Pairwise-take R n xs h.1)

-- one more lecture of a timetable is counted in a block of slots
module _ (i : Problem) (t : List Placed) (h : IsTimetable i t) (courses_few : course_count i ≤ 2000) (first k : ℕ) (x : Placed) (within : k < length t) (at : x ≡ get_or t k x) where
  abbrev ts : List Placed
  ts = take k t

  next : take (k + 1) t ≡ ts ++ x ∷ []
  next = take_more t k x within ∙ ap (λ y. ts ++ y ∷ []) (sym at)

  -- the marks of the lectures seen so far
  pub met_more : (p : ℕ → ℕ → Placed → Bool) (old new : ℕ → ℕ → Bool) → ((r n : ℕ) → r < 64 → old r n ≡ list_any (p r n) ts) → ((r n : ℕ) → r < 64 → new r n ≡ (p r n x || old r n)) → (r n : ℕ) → r < 64 → new r n ≡ list_any (p r n) (take (k + 1) t)
  met_more p old new so_far marked r n lt =
      marked r n lt ∙ ap (λ b. p r n x || b) (so_far r n lt) ∙ flip (p r n x) (list_any (p r n) ts) ∙ ap (λ y. list_any (p r n) ts || p r n y) at ∙ sym (list_any_more (p r n) t k x within)
    where
      flip : (a b : Bool) → (a || b) ≡ (b || a)
      flip a b = grind arith

  tally_more : (adds : List Placed → Placed → ℕ) → tally (only_in first (first + 64) adds) [] (take (k + 1) t) ≡ tally (only_in first (first + 64) adds) [] ts + cond (leb first x.slot && ltb x.slot (first + 64)) (adds ts x) 0
  tally_more adds = ap (tally (only_in first (first + 64) adds) []) next ∙ tally_push (only_in first (first + 64) adds) [] ts x

  -- the tally with what the tables add for one more lecture
  added : (adds : List Placed → Placed → ℕ) (n : ℕ) → (first ≤ x.slot → x.slot < first + 64 → n ≡ adds ts x)
      → tally (only_in first (first + 64) adds) [] (take (k + 1) t) ≡ tally (only_in first (first + 64) adds) [] ts + cond (leb first x.slot && ltb x.slot (first + 64)) n 0
  added adds n is = tally_more adds ∙ ap (λ m. tally (only_in first (first + 64) adds) [] ts + m) (elim (cases_Bool (leb first x.slot && ltb x.slot (first + 64))) [
    | inl yes' ↦ (
        let parts = and_parts (leb first x.slot) (ltb x.slot (first + 64)) yes' in
        ap (λ m. cond (leb first x.slot && ltb x.slot (first + 64)) m 0) (sym (is (leb-true first x.slot parts.0) (ltb-true x.slot (first + 64) parts.1))))
    | inr no' ↦ (ap (λ b. cond b (adds ts x) 0) no' ∙ sym (ap (λ b. cond b n 0) no'))
  ])

  pub conflicts_more : (courses : List (List ℕ)) → ((r n : ℕ) → r < 64 → in_row courses r n ≡ list_any (λ y. y.slot == first + r && y.course == n) ts)
      → tally (only_in first (first + 64) (new_conflicts i)) [] (take (k + 1) t)
      ≡ tally (only_in first (first + 64) (new_conflicts i)) [] ts + cond (leb first x.slot && ltb x.slot (first + 64)) (count_marked (λ n. in_row courses (x.slot - first) n && clashes_with i x.course n)) 0
  conflicts_more courses right = added (new_conflicts i) (count_marked (λ n. in_row courses (x.slot - first) n && clashes_with i x.course n)) by
    where
      apart : (a b : Placed) → before a b ≡ true → (a.slot == x.slot) ≡ true → (b.slot == x.slot) ≡ true → a.course ≡ b.course → ⊥
      apart a b e ka kb same = absurd (grind (arith, nat_tests))

      by : first ≤ x.slot → x.slot < first + 64 → count_marked (λ n. in_row courses (x.slot - first) n && clashes_with i x.course n) ≡ new_conflicts i ts x
      by low high =
          same_marked (λ n. in_row courses (x.slot - first) n && clashes_with i x.course n) (λ n. list_any (λ y. y.slot == x.slot && y.course == n) ts && clashes_with i x.course n)
          (λ n. ap (λ b. b && clashes_with i x.course n) (right (x.slot - first) n (omega (arith, high, low)) ∙ ap (λ s. list_any (λ y. y.slot == s && y.course == n) ts) (omega (arith, low))))
          ∙ counted_apart (λ y. y.slot == x.slot) (λ y. y.course) (clashes_with i x.course) 2000 ts
          (Pairwise-map (λ a b. before a b ≡ true) (λ a b. (a.slot == x.slot) ≡ true → (b.slot == x.slot) ≡ true → a.course ≡ b.course → ⊥) apart ts (Pairwise-take (λ a b. before a b ≡ true) k t h.ascending))
          (Each-map (Fits i) (λ y. (y.slot == x.slot) ≡ true → y.course < 2000) (λ y f _. omega (arith, f.0, courses_few)) ts (Each-take (Fits i) k t h.fits))
          ∙ count_by-same (λ y. y.slot == x.slot && clashes_with i x.course y.course) (λ y. conflicts i y x) ts
          (Each-map (Fits i) (λ y. (y.slot == x.slot && clashes_with i x.course y.course) ≡ conflicts i y x)
          (λ y f. ap (λ b. y.slot == x.slot && b) (ap (λ b. b && clash i x.course y.course) (lt-ltb y.course (course_count i) f.0) ∙ clash_comm i x.course y.course)) ts (Each-take (Fits i) k t h.fits))

  pub rooms_more : (rooms : List (List ℕ)) → ((r n : ℕ) → r < 64 → in_row rooms r n ≡ list_any (λ y. y.slot == first + r && y.room == n) ts)
      → tally (only_in first (first + 64) room_taken) [] (take (k + 1) t)
      ≡ tally (only_in first (first + 64) room_taken) [] ts + cond (leb first x.slot && ltb x.slot (first + 64)) (cond (in_row rooms (x.slot - first) x.room) 1 0) 0
  rooms_more rooms right = added room_taken (cond (in_row rooms (x.slot - first) x.room) 1 0) (λ low high. ap (λ b. cond b 1 0) (right (x.slot - first) x.room (omega (arith, high, low))
      ∙ any_same (λ y. y.slot == first + (x.slot - first) && y.room == x.room) (share_room x) ts (λ y. ap (λ s. y.slot == s && y.room == x.room) (omega (arith, low)) ∙ ap₂ (λ a b. a && b) (eqb_comm y.slot x.slot) (eqb_comm y.room x.room))))

pub cond_few : (b : Bool) (m n : ℕ) → m ≤ n → cond b m 0 ≤ n
cond_few true m n le = le
cond_few false m n le = omega arith

pub one_few : (b : Bool) → cond b 1 0 ≤ 1
one_few b = cond_few b 1 1 (omega arith)
