-- A timetable stays lawful with one lecture more that can be placed, and with one less.
use Rattle.std.proofs.Common.{is_some, ◌≡◌, ℕ, suc, ◌<◌, ◌≤◌, Bool, true, false, not, ◌&&◌, ◌==◌, List, [], ◌∷◌, refl, ◌∙◌, sym, ap, subst, length, arith, inl, inr}
use Rattle.std.specs.List.{filter, AllByRecursion as Each}
use Rattle.std.proofs.lemmas.Bool.Decides.{nat_tests}
use Rattle.std.proofs.lemmas.Bool.{cases_Bool, cases_eq, eq-eqb, ne_eqb}
use Rattle.ctt_problem.specs.Problem.{Problem, course_of, clash}
use Rattle.ctt_problem.specs.Timetable.{before, Ascending, Fits, course_row, slot_row, with, without}
use Rattle.ctt_problem.specs.declared.placed.Placed.{Placed}
use Rattle.ctt_problem.proofs.TimetableLemmas.{Each-map}
use Rattle.ctt_rules.specs.Hard.{Lawful, IsAllowed, conflicts, share_room}
use Rattle.ctt_rules.proofs.ListLemmas.{Each-filter, Pairwise-filter}
use Rattle.ctt_rules.proofs.ConflictLemmas.{clash_comm}
use Rattle.ctt_problem.proofs.LectureLaws.{Each-put, before_once}
use Rattle.ctt_board.specs.Changes.{room_at}
use Rattle.ctt_board.proofs.PutLemmas.{filter_filter, filter-put_yes, filter-put_no, length-put, Pairwise-put, Pairwise-put_both}
use Rattle.ctt_board.proofs.OrderLemmas.{before_goes, in_order}

-- a lecture that can be placed
pub record Free (i : Problem) (t : List Placed) (c s r : ℕ) : Type 0 where
  pub empty : is_some (room_at c s t) ≡ false
  pub absent : Each (λ (l : Placed). (l.slot == s) ≡ false) (course_row c t)
  pub fewer : length (course_row c t) < (course_of i c).lectures
  pub allowed : IsAllowed i (record { course = c; slot = s; room = r })
  pub no_clash : Each (λ (l : Placed). clash i c l.course ≡ false) (slot_row s t)
  pub room_free : Each (λ (l : Placed). (l.room == r) ≡ false) (slot_row s t)

-- what a part has is in the whole
pub Each-from_filter : {X : Type 0} (Q : X → Type 0) (p : X → Bool) (xs : List X) → Each Q (filter p xs) → Each (λ x. p x ≡ true → Q x) xs
Each-from_filter Q p [] h = tt
Each-from_filter Q p (x ∷ xs) h = elim (cases_Bool (p x)) [
  | inl b ↦ (let h' : Q x × Each Q (filter p xs) = rw b at h in ((λ e. h'.0), Each-from_filter Q p xs h'.1))
  | inr b ↦ (let h' : Each Q (filter p xs) = rw b at h in ((λ e. let z : true ≡ false = sym e ∙ b in cc), Each-from_filter Q p xs h'))
]

pub length-filter_le : {X : Type 0} (p : X → Bool) (xs : List X) → length (filter p xs) ≤ length xs
length-filter_le p [] = omega arith
length-filter_le p (x ∷ xs) = elim (cases_Bool (p x)) [ inl b ↦ rw b (omega (arith, length-filter_le p xs)) | inr b ↦ rw b (omega (arith, length-filter_le p xs)) ]

pub eqb_comm : (a b : ℕ) → (a == b) ≡ (b == a)
eqb_comm a b = grind (arith, nat_tests)

pub without_lawful : (i : Problem) (t : List Placed) (c s : ℕ) → Lawful i t → Lawful i (without c s t)
without_lawful i t c s h =
    let p : Placed → Bool = λ l. not (l.course == c && l.slot == s) in
    record {
      timetable = record { ascending = Pairwise-filter (λ a b. before a b ≡ true) p t h.timetable.ascending; fits = Each-filter (Fits i) p t h.timetable.fits };
      conflict_free = Pairwise-filter (λ a b. conflicts i a b ≡ false) p t h.conflict_free;
      allowed = Each-filter (IsAllowed i) p t h.allowed;
      rooms_apart = Pairwise-filter (λ a b. share_room a b ≡ false) p t h.rooms_apart;
      few = λ d. rw (filter_filter (λ l. l.course == d) p t) (omega (arith, length-filter_le p (course_row d t), h.few d));
    }

-- two lectures that do not meet, from both sides
clash_both : (i : Problem) (l y : Placed) → ((y.slot == l.slot) ≡ true → clash i l.course y.course ≡ false) → (conflicts i l y ≡ false) × (conflicts i y l ≡ false)
clash_both i l y n = elim (cases_Bool (y.slot == l.slot)) [
  | inl b ↦ (rw (eqb_comm l.slot y.slot, b, n b) refl, rw (b, clash_comm i y.course l.course, n b) refl)
  | inr b ↦ (rw (eqb_comm l.slot y.slot, b) refl, rw b refl)
]

room_both : (l y : Placed) → ((y.slot == l.slot) ≡ true → (y.room == l.room) ≡ false) → (share_room l y ≡ false) × (share_room y l ≡ false)
room_both l y n = elim (cases_Bool (y.slot == l.slot)) [
  | inl b ↦ (rw (eqb_comm l.slot y.slot, b, eqb_comm l.room y.room, n b) refl, rw (b, n b) refl)
  | inr b ↦ (rw (eqb_comm l.slot y.slot, b) refl, rw b refl)
]

-- a timetable ascends with one more lecture at a place that is empty
Ascending-with : (l : Placed) (t : List Placed) → Each (λ (y : Placed). (y.course == l.course) ≡ true → (y.slot == l.slot) ≡ false) t → Ascending t → Ascending (with l t)
Ascending-with l t absent h =
    Pairwise-put (λ a b. before a b ≡ true) before l t far
    (Each-map (λ (y : Placed). (y.course == l.course) ≡ true → (y.slot == l.slot) ≡ false) (λ y. before l y ≡ true → before l y ≡ true) (λ y n e. e) t absent)
    (Each-map (λ (y : Placed). (y.course == l.course) ≡ true → (y.slot == l.slot) ≡ false) (λ y. before l y ≡ false → before y l ≡ true) other t absent) h
  where
    far : (y z : Placed) → before l y ≡ true → before y z ≡ true → before l z ≡ true
    far y z a b = before_goes l y z a (before_once y z b)

    other : (y : Placed) → ((y.course == l.course) ≡ true → (y.slot == l.slot) ≡ false) → before l y ≡ false → before y l ≡ true
    other y n e = elim (cases_eq y.course l.course) [
      | inl same ↦ (let n' : (y.slot == l.slot) ≡ false = n (eq-eqb y.course l.course same) in grind (arith, nat_tests))
      | inr differ ↦ grind (arith, nat_tests)
    ]

pub with_lawful : (i : Problem) (t : List Placed) (c s r : ℕ) → Lawful i t → Fits i (record { course = c; slot = s; room = r }) → Free i t c s r → Lawful i (with (record { course = c; slot = s; room = r }) t)
with_lawful i t c s r h f e =
    let l : Placed = record { course = c; slot = s; room = r } in
    let absent : Each (λ (y : Placed). (y.course == c) ≡ true → (y.slot == s) ≡ false) t = Each-from_filter (λ (y : Placed). (y.slot == s) ≡ false) (λ y. y.course == c) t e.absent in
    let no_clash : Each (λ (y : Placed). (y.slot == s) ≡ true → clash i c y.course ≡ false) t = Each-from_filter (λ (y : Placed). clash i c y.course ≡ false) (λ y. y.slot == s) t e.no_clash in
    let room_free : Each (λ (y : Placed). (y.slot == s) ≡ true → (y.room == r) ≡ false) t = Each-from_filter (λ (y : Placed). (y.room == r) ≡ false) (λ y. y.slot == s) t e.room_free in
    record {
      timetable = record { ascending = Ascending-with l t absent h.timetable.ascending; fits = Each-put (Fits i) before l t f h.timetable.fits };
      conflict_free = Pairwise-put_both (λ a b. conflicts i a b ≡ false) before l t (Each-map (λ (y : Placed). (y.slot == s) ≡ true → clash i c y.course ≡ false) (λ y. (conflicts i l y ≡ false) × (conflicts i y l ≡ false)) (clash_both i l) t no_clash) h.conflict_free;
      allowed = Each-put (IsAllowed i) before l t e.allowed h.allowed;
      rooms_apart = Pairwise-put_both (λ a b. share_room a b ≡ false) before l t (Each-map (λ (y : Placed). (y.slot == s) ≡ true → (y.room == r) ≡ false) (λ y. (share_room l y ≡ false) × (share_room y l ≡ false)) (room_both l) t room_free) h.rooms_apart;
      few = λ d. elim (cases_eq c d) [
        | inl same ↦ (
            let own : length (course_row d (with l t)) ≡ suc (length (course_row d t)) = ap length (filter-put_yes (λ l. l.course == d) before before_goes l t (eq-eqb c d same) (in_order t h.timetable.ascending)) ∙ length-put before l (course_row d t) in
            let room' : length (course_row d t) < (course_of i d).lectures = subst (λ x. length (course_row x t) < (course_of i x).lectures) same e.fewer in
            omega arith)
        | inr other ↦ (
            let own : length (course_row d (with l t)) ≡ length (course_row d t) = ap length (filter-put_no (λ l. l.course == d) before l t (ne_eqb c d other)) in
            omega (arith, h.few d))
      ];
    }
