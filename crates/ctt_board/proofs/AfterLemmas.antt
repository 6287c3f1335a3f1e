-- Who has a room after a change, and how many lectures a course has then.
use Rattle.std.proofs.Common.{◌≡◌, ℕ, ◌+◌, ◌≤◌, Bool, true, false, cond, not, ◌&&◌, ◌==◌, List, [], ◌∷◌, length, Option, Some, None, is_some, is_none, refl, ◌∙◌, sym, ap, ap₂, subst, arith, inl, inr}
use Rattle.std.specs.List.{find, count_by, AllByRecursion as Each}
use Rattle.std.specs.Option.{option_eq}
use Rattle.std.proofs.lemmas.Bool.{cases_Bool, eq-eqb, eqb-true}
use Rattle.std.proofs.lemmas.Bool.Decides.{nat_tests}
use Rattle.ctt_problem.specs.Problem.{Problem, IsProblem}
use Rattle.ctt_problem.specs.Timetable.{course_row, with, without}
use Rattle.ctt_problem.specs.declared.placed.Placed.{Placed}
use Rattle.ctt_rules.specs.Hard.{Lawful}
use Rattle.ctt_rules.proofs.ListLemmas.{Each-filter_passes}
use Rattle.std.proofs.lemmas.List.Sums.{length-filter}
use Rattle.ctt_rules.proofs.SumLemmas.{count_by-cons}
use Rattle.ctt_rules.proofs.TimetableLemmas.{few_lectures}
use Rattle.ctt_board.specs.Changes.{course_named, room_at, holder_at, held_here, holder_by, is_added, is_removed, apply_at, apply, in_turn, CellFits, CellsFit}
use Rattle.ctt_board.proofs.MoreLemmas.{IsMore, counted_more, more_with, more_without}
use Rattle.ctt_board.specs.declared.cell.Cell.{Cell}
use Rattle.ctt_board.proofs.BetweenLemmas.{next_lawful, turn_rest, some_room}
use Rattle.ctt_board.proofs.LawfulLemmas.{length-filter_le}
use Rattle.ctt_board.proofs.HolderLemmas.{Apart, is_in, holder_is, holder_with, holder_without, removed_back}
use Rattle.ctt_board.proofs.RoomLemmas.{is_at, room_is}

-- what is found by its course is somewhere
named_somewhere : (P : Placed → Type 0) (p : Placed → Bool) (xs : List Placed) (c : ℕ) → Each P xs → course_named (find p xs) ≡ Some c → (l : Placed) × P l × (p l ≡ true) × (l.course ≡ c)
named_somewhere P p [] c h e = cc
named_somewhere P p (x ∷ xs) c h e = elim (cases_Bool (p x)) [
  | inl y ↦ (let e' : Some x.course ≡ Some c = (rw y at e) in (x, h.0, y, cc))
  | inr n ↦ (let e' : course_named (find p xs) ≡ Some c = (rw n at e) in named_somewhere P p xs c h.1 e')
]

same_course : (h : Option ℕ) (c : ℕ) → option_eq (λ (a b : ℕ). a == b) h (Some c) ≡ true → h ≡ Some c
same_course None c e = cc
same_course (Some d) c e = ap Some (eqb-true d c e)

-- a course that left the slot has no room there
nowhere_left : (c s d e : ℕ) (t : List Placed) → s ≡ d → holder_at d e (without c s t) ≡ Some c → ⊥
nowhere_left c s d e t same h =
    let there = named_somewhere (λ l. not (is_at c s l) ≡ true) (is_in d e) (without c s t) c (Each-filter_passes (λ l. not (is_at c s l)) t) (sym (holder_is d e (without c s t)) ∙ h) in
    no there.0 there.1 there.2 there.3
  where
    no : (l : Placed) → not (is_at c s l) ≡ true → is_in d e l ≡ true → l.course ≡ c → ⊥
    no l a b f = grind (arith, nat_tests)

module _ (i : Problem) (c s r d e : ℕ) (t : List Placed) (lawful : Lawful i t) (there : room_at c s t ≡ Some r) where
  abbrev l : Placed
  l = record { course = c; slot = s; room = r }

  back : with l (without c s t) ≡ t
  back = removed_back c s r t lawful.timetable.ascending (sym (room_is c s t) ∙ there)

  before : holder_at d e t ≡ cond (s == d && r == e) (Some c) (holder_at d e (without c s t))
  before = ap (holder_at d e) (sym back) ∙ holder_with l (without c s t) d e (subst Apart (sym back) lawful.rooms_apart)

  gone : holder_at d e (without c s t) ≡ cond (s == d) (held_here c None e (holder_at d e t)) (holder_at d e t)
  gone = elim (cases_Bool (s == d)) [
    | inr n ↦ rw n (holder_without i l t d e lawful there ∙ ap (λ b. cond (b && r == e) None (holder_at d e t)) n)
    | inl y ↦ elim (cases_Bool (r == e)) [
      | inl z ↦ (
          let held : holder_at d e t ≡ Some c = before ∙ ap₂ (λ a b. cond (a && b) (Some c) (holder_at d e (without c s t))) y z in
          rw (y, held, eq-eqb c c refl) (holder_without i l t d e lawful there ∙ ap₂ (λ a b. cond (a && b) None (holder_at d e t)) y z))
      | inr z ↦ (
          let same : holder_at d e t ≡ holder_at d e (without c s t) = before ∙ ap₂ (λ a b. cond (a && b) (Some c) (holder_at d e (without c s t))) y z in
          rw y (elim (cases_Bool (option_eq (λ (a b : ℕ). a == b) (holder_at d e t) (Some c))) [
            | inl k ↦ absurd (nowhere_left c s d e t (eqb-true s d y) (sym same ∙ same_course (holder_at d e t) c k))
            | inr k ↦ rw k (sym same)
          ]))
    ]
  ]

holder_after : (i : Problem) (c s : ℕ) (o : Option ℕ) (d e : ℕ) (t : List Placed) → Lawful i t → CellFits t c s o → Lawful i (apply_at c s o t) → holder_at d e (apply_at c s o t) ≡ cond (s == d) (held_here c o e (holder_at d e t)) (holder_at d e t)
holder_after i c s None d e t now fits next = (let stood = some_room (room_at c s t) fits in gone i c s stood.0 d e t now stood.1)
holder_after i c s (Some r) d e t now fits next = holder_with (record { course = c; slot = s; room = r }) t d e next.rooms_apart ∙ split (s == d) (r == e)
  where
    split : (a b : Bool) → cond (a && b) (Some c) (holder_at d e t) ≡ cond a (cond b (Some c) (holder_at d e t)) (holder_at d e t)
    split true b = refl
    split false b = refl

-- who has a room after cells that fit, removals first
pub holders_after : (i : Problem) (cells : List Cell) (t : List Placed) (d e : ℕ) → Lawful i t → in_turn false cells ≡ true → CellsFit cells t → Lawful i (apply cells t) → holder_at d e (apply cells t) ≡ holder_by cells d e (holder_at d e t)
holders_after i [] t d e now turn fits after = refl
holders_after i (x ∷ xs) t d e now turn fits after =
    let next = next_lawful i x xs t now turn fits after in
    holders_after i xs (apply_at x.course x.slot x.room t) d e next (turn_rest x xs turn) fits.1 after
    ∙ ap (holder_by xs d e) (holder_after i x.course x.slot x.room d e t now fits.0 next)

-- one lecture more, in the row of a course
pub one_in_row : (l : Placed) (t u : List Placed) (c : ℕ) → IsMore l t u → length (course_row c u) ≡ cond (l.course == c) 1 0 + length (course_row c t)
one_in_row l t u c more = length-filter (λ x. x.course == c) u ∙ counted_more l t u more (λ x. x.course == c) ∙ ap (λ n. cond (l.course == c) 1 0 + n) (sym (length-filter (λ x. x.course == c) t))

row_after : (i : Problem) (d s : ℕ) (o : Option ℕ) (c : ℕ) (t : List Placed) → Lawful i t → CellFits t d s o → length (course_row c (apply_at d s o t)) + cond (d == c && is_none o) 1 0 ≡ length (course_row c t) + cond (d == c && is_some o) 1 0
row_after i d s None c t now fits = (let stood = some_room (room_at d s t) fits in by (d == c) (length (course_row c t)) (length (course_row c (without d s t))) (one_in_row (record { course = d; slot = s; room = stood.0 }) (without d s t) t c (more_without d s stood.0 t now.timetable.ascending stood.1)))
  where
    by : (b : Bool) (n m : ℕ) → n ≡ cond b 1 0 + m → m + cond (b && true) 1 0 ≡ n + cond (b && false) 1 0
    by true n m e = omega (arith, e)
    by false n m e = omega (arith, e)
row_after i d s (Some r) c t now fits = by (d == c) (length (course_row c t)) (length (course_row c (with (record { course = d; slot = s; room = r }) t))) (one_in_row (record { course = d; slot = s; room = r }) t (with (record { course = d; slot = s; room = r }) t) c (more_with (record { course = d; slot = s; room = r }) t))
  where
    by : (b : Bool) (n m : ℕ) → m ≡ cond b 1 0 + n → m + cond (b && false) 1 0 ≡ n + cond (b && true) 1 0
    by true n m e = omega (arith, e)
    by false n m e = omega (arith, e)

-- the lectures of a course after cells that fit, with those that are removed
pub rows_after : (i : Problem) (cells : List Cell) (t : List Placed) (c : ℕ) → Lawful i t → in_turn false cells ≡ true → CellsFit cells t → Lawful i (apply cells t) → length (course_row c (apply cells t)) + count_by (is_removed c) cells ≡ length (course_row c t) + count_by (is_added c) cells
rows_after i [] t c now turn fits after = refl
rows_after i (x ∷ xs) t c now turn fits after =
    let next = next_lawful i x xs t now turn fits after in
    omega (arith, rows_after i xs (apply_at x.course x.slot x.room t) c next (turn_rest x xs turn) fits.1 after, row_after i x.course x.slot x.room c t now fits.0, count_by-cons (is_removed c) x xs, count_by-cons (is_added c) x xs)

-- they are few
pub few_in_row : (i : Problem) (t : List Placed) (c : ℕ) → IsProblem i → Lawful i t → length (course_row c t) ≤ 4000000
few_in_row i t c p h = omega (arith, length-filter_le (λ l. l.course == c) t, few_lectures i t h.timetable p)
