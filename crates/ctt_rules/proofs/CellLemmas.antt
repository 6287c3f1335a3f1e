-- Lectures beyond the first in each room and slot, counted lecture by lecture.
use Rattle.std.proofs.Common.{◌≡◌, ℕ, zero, suc, ◌+◌, ◌-◌, ◌<◌, Bool, true, false, cond, ◌&&◌, ◌||◌, ◌==◌, eqb, ltb, List, [], ◌∷◌, ◌++◌, refl, ◌∙◌, sym, ap, ap₂, arith, inl, inr}
use Rattle.std.specs.List.{count_by, list_any}
use Rattle.std.proofs.lemmas.Bool.Decides.{nat_tests}
use Rattle.std.proofs.lemmas.Bool.{cases_eq, cases_lt, eq-eqb, ne_eqb, lt-ltb, le-ltb, and_from, and_left, and_right}
use Rattle.std.proofs.lemmas.List.Sums.{sum_by_push}
use Rattle.ctt_problem.specs.Lists.{sum_below}
use Rattle.ctt_problem.specs.Problem.{Problem, room_count, slot_count}
use Rattle.ctt_problem.specs.Timetable.{Fits}
use Rattle.ctt_problem.specs.declared.placed.Placed.{Placed}
use Rattle.ctt_rules.specs.Hard.{share_room, occupancy_count}
use Rattle.ctt_rules.proofs.NeighbourLemmas.{any_same}
use Rattle.ctt_rules.proofs.SumLemmas.{sum_below_same, sum_below_add, sum_below_one, sum_below_zero, count_by-cons}

-- the lectures beyond the first in the rooms of a slot, and in the slots below n
abbrev crowd_in : Problem → ℕ → List Placed → ℕ
crowd_in i s t = sum_below (λ r. count_by (λ l. l.room == r && l.slot == s) t - 1) (room_count i)

abbrev crowd_below : Problem → ℕ → List Placed → ℕ
crowd_below i n t = sum_below (λ s. crowd_in i s t) n

-- the order of two sums can be exchanged
sum_below_turn : (f : ℕ → ℕ → ℕ) (m n : ℕ) → sum_below (λ r. sum_below (λ s. f r s) n) m ≡ sum_below (λ s. sum_below (λ r. f r s) m) n
sum_below_turn f zero n = sym (sum_below_zero (λ _. 0) n (λ _ _. refl))
sum_below_turn f (suc m) n = ap (λ k. k + sum_below (λ s. f m s) n) (sum_below_turn f m n) ∙ sym (sum_below_add (λ s. sum_below (λ r. f r s) m) (λ s. f m s) n)

crowd_is_occupancy : (i : Problem) (t : List Placed) → crowd_below i (slot_count i) t ≡ occupancy_count i t
crowd_is_occupancy i t = sym (sum_below_turn (λ r s. count_by (λ l. l.room == r && l.slot == s) t - 1) (room_count i) (slot_count i))

crowd_none : (i : Problem) (n : ℕ) → crowd_below i n [] ≡ 0
crowd_none i n = sum_below_zero (λ s. crowd_in i s []) n (λ s lt. sum_below_zero (λ _. 0 - 1) (room_count i) (λ _ _. refl))

-- the count of what passes, split into one for the first and the rest
beyond_first : {X : Type 0} (p : X → Bool) (xs : List X) → count_by p xs ≡ (count_by p xs - 1) + cond (list_any p xs) 1 0
beyond_first p [] = refl
beyond_first p (x ∷ xs) = by (p x) (list_any p xs) (count_by p xs) (count_by p (x ∷ xs)) (count_by-cons p x xs) (beyond_first p xs)
  where
    by : (b any : Bool) (n m : ℕ) → m ≡ cond b 1 0 + n → n ≡ (n - 1) + cond any 1 0 → m ≡ (m - 1) + cond (b || any) 1 0
    by true any n m e h = omega arith
    by false any n m e h = let e' : m ≡ n = omega arith in rw e' h

same_test : (a b : Bool) → (a ≡ true → b ≡ true) → (b ≡ true → a ≡ true) → a ≡ b
same_test true b f g = sym (f refl)
same_test false true f g = g refl
same_test false false f g = refl

-- the sum of a value at the single number j, which may be out of range
sum_below_at : (v j n : ℕ) → sum_below (λ x. cond (eqb j x) v 0) n ≡ cond (ltb j n) v 0
sum_below_at v j n = elim (cases_lt j n) [
  | inl lt ↦ sum_below_one v j n lt ∙ sym (ap (λ b. cond b v 0) (lt-ltb j n lt))
  | inr le ↦ sum_below_zero (λ x. cond (eqb j x) v 0) n (λ x lt. ap (λ b. cond b v 0) (ne_eqb j x (λ e. omega (arith, e, lt, le)))) ∙ sym (ap (λ b. cond b v 0) (le-ltb j n le))
]

-- one more lecture is beyond the first in its room and slot if another one is there
module _ (i : Problem) (ts : List Placed) (x : Placed) (room : x.room < room_count i) where
  abbrev more : ℕ
  more = cond (list_any (share_room x) ts) 1 0

  abbrev stands : ℕ → ℕ → Placed → Bool
  stands r s l = l.room == r && l.slot == s

  module _ (r s : ℕ) where
    pushed : count_by (stands r s) (ts ++ x ∷ []) ≡ count_by (stands r s) ts + cond (stands r s x) 1 0
    pushed = sum_by_push (λ l. cond (stands r s l) 1 0) ts x

    there : x.room ≡ r → x.slot ≡ s → (count_by (stands r s) (ts ++ x ∷ []) - 1) ≡ (count_by (stands r s) ts - 1) + more
    there r_same s_same =
        let yes' : stands r s x ≡ true = and_from (x.room == r) (x.slot == s) (eq-eqb x.room r r_same) (eq-eqb x.slot s s_same) in
        let one : cond (stands r s x) 1 0 ≡ 1 = ap (λ b. cond {A = ℕ} b 1 0) yes' in
        let any : list_any (stands r s) ts ≡ list_any (share_room x) ts = any_same (stands r s) (share_room x) ts (λ l. ap₂ (λ a b. l.room == a && l.slot == b) (sym r_same) (sym s_same) ∙ turn l.room x.room l.slot x.slot) in
        let many : count_by (stands r s) ts ≡ (count_by (stands r s) ts - 1) + more = beyond_first (stands r s) ts ∙ ap (λ b. (count_by (stands r s) ts - 1) + cond b 1 0) any in
        omega (arith, pushed, one, many)
      where
        turn : (a b c d : ℕ) → (a == b && c == d) ≡ (d == c && b == a)
        turn a b c d = grind (arith, nat_tests)

    not_there : stands r s x ≡ false → (count_by (stands r s) (ts ++ x ∷ []) - 1) ≡ (count_by (stands r s) ts - 1) + 0
    not_there no' =
        let none : cond (stands r s x) 1 0 ≡ 0 = ap (λ b. cond {A = ℕ} b 1 0) no' in
        omega (arith, pushed, none)

    at_place : (count_by (stands r s) (ts ++ x ∷ []) - 1) ≡ (count_by (stands r s) ts - 1) + cond (eqb x.room r) (cond (eqb x.slot s) more 0) 0
    at_place = elim (cases_eq x.room r) [
      | inl r_same ↦ elim (cases_eq x.slot s) [
        | inl s_same ↦ (there r_same s_same ∙ ap₂ (λ a b. (count_by (stands r s) ts - 1) + cond a (cond b more 0) 0) (sym (eq-eqb x.room r r_same)) (sym (eq-eqb x.slot s s_same)))
        | inr s_other ↦ (not_there (and_right (x.room == r) (x.slot == s) (ne_eqb x.slot s s_other)) ∙ ap₂ (λ a b. (count_by (stands r s) ts - 1) + cond a (cond b more 0) 0) (sym (eq-eqb x.room r r_same)) (sym (ne_eqb x.slot s s_other)))
      ]
      | inr r_other ↦ (not_there (and_left (x.room == r) (x.slot == s) (ne_eqb x.room r r_other)) ∙ ap (λ a. (count_by (stands r s) ts - 1) + cond a (cond (eqb x.slot s) more 0) 0) (sym (ne_eqb x.room r r_other)))
    ]

  in_slot : (s : ℕ) → crowd_in i s (ts ++ x ∷ []) ≡ crowd_in i s ts + cond (eqb x.slot s) more 0
  in_slot s =
      sum_below_same (λ r. count_by (stands r s) (ts ++ x ∷ []) - 1) (λ r. (count_by (stands r s) ts - 1) + cond (eqb x.room r) (cond (eqb x.slot s) more 0) 0) (room_count i) (λ r. at_place r s)
      ∙ sum_below_add (λ r. count_by (stands r s) ts - 1) (λ r. cond (eqb x.room r) (cond (eqb x.slot s) more 0) 0) (room_count i)
      ∙ ap (λ k. crowd_in i s ts + k) (sum_below_one (cond (eqb x.slot s) more 0) x.room (room_count i) room)

  crowd_push : (n : ℕ) → crowd_below i n (ts ++ x ∷ []) ≡ crowd_below i n ts + cond (ltb x.slot n) more 0
  crowd_push n =
      sum_below_same (λ s. crowd_in i s (ts ++ x ∷ [])) (λ s. crowd_in i s ts + cond (eqb x.slot s) more 0) n in_slot
      ∙ sum_below_add (λ s. crowd_in i s ts) (λ s. cond (eqb x.slot s) more 0) n ∙ ap (λ k. crowd_below i n ts + k) (sum_below_at more x.slot n)

-- the count with one more lecture
pub occupancy_push : (i : Problem) (ts : List Placed) (x : Placed) → Fits i x → occupancy_count i (ts ++ x ∷ []) ≡ occupancy_count i ts + cond (list_any (share_room x) ts) 1 0
occupancy_push i ts x fits =
    sym (crowd_is_occupancy i (ts ++ x ∷ [])) ∙ crowd_push i ts x fits.2 (slot_count i)
    ∙ ap₂ (λ a b. a + cond b (cond (list_any (share_room x) ts) 1 0) 0) (crowd_is_occupancy i ts) (lt-ltb x.slot (slot_count i) fits.1)

pub none_shared : (i : Problem) → occupancy_count i [] ≡ 0
none_shared i = sym (crowd_is_occupancy i []) ∙ crowd_none i (slot_count i)
