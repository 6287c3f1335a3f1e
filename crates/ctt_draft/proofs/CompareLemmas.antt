-- The rows of the snapshot compared with those of a sheet: of a course cell by cell, of a slot room
-- by room.
use Rattle.std.proofs.Common.{◌≡◌, ◌<◌, ◌==◌, ◌&&◌, ◌||◌, ◌↔◌, IsTrue, Bool, true, false, not, ℕ, List, [], ◌∷◌, Option, Some, None, refl, ◌∙◌, sym, ap, ap₂, subst, inl, inr}
use Rattle.std.specs.Option.{option_eq}
use Rattle.std.specs.List.{list_any, AllByRecursion as Each}
use Rattle.std.proofs.lemmas.Bool.{cases_Bool, or_parts, and_parts, eqb-true}
use Rattle.ctt_problem.specs.Problem.{room_count}
use Rattle.ctt_problem.specs.Timetable.{course_row, slot_row}
use Rattle.ctt_problem.specs.declared.placed.Placed.{Placed}
use Rattle.ctt_board.specs.Changes.{room_at, holder_at}
use Rattle.ctt_board.specs.declared.cell.Cell.{Cell}
use Rattle.ctt_board.proofs.BetweenLemmas.{there_fits}
use Rattle.ctt_board.proofs.SameLemmas.{room_by_course_row, room_by_slot_row, same_cell, differ}
use Rattle.ctt_draft.specs.Undo.{is_cell_of, is_named}
use Rattle.ctt_draft.specs.Comparisons.{Compared, base_of, is_other, has_other_in_course, has_other_in_slot, is_none_or_named, agrees_in_room, IsComparable}
use Rattle.ctt_draft.proofs.HeldLemmas.{held, stands, held_too}

abbrev same_room : Option ℕ → Option ℕ → Bool
same_room a b = option_eq (λ (m n : ℕ). m == n) a b

abbrev pub HasRooms : List Placed → List Cell → Type 0
HasRooms base cells = Each (λ (x : Cell). x.room ≡ room_at x.course x.slot base) cells

-- if the sheet differs from a cell that passes a test, P is false, provided that P implies
-- agreement in all such cells
some_other : (p : Cell → Bool) (P : Type 0) (base sheet : List Placed) (cells : List Cell) → HasRooms base cells → list_any (λ x. p x && is_other sheet x) cells ≡ true
    → ((x : Cell) → p x ≡ true → P → room_at x.course x.slot base ≡ room_at x.course x.slot sheet) → IsTrue false ↔ P
some_other p P base sheet [] h e same = cc
some_other p P base sheet (x ∷ xs) h e same = elim (cases_Bool (p x && is_other sheet x)) [
  | inl y ↦ (
      let parts = and_parts (p x) (is_other sheet x) y in
      differ P x.room (room_at x.course x.slot sheet) parts.1 (λ q. h.0 ∙ same x parts.0 q))
  | inr n ↦ some_other p P base sheet xs h.1 (rest (p x && is_other sheet x) (list_any (λ z. p z && is_other sheet z) xs) e n) same
]
  where
    rest : (a b : Bool) → (a || b) ≡ true → a ≡ false → b ≡ true
    rest true b k l = cc
    rest false b k l = k

-- if the sheet differs from no cell that passes a test, it agrees with the snapshot in a recorded
-- cell that passes
none_other : (p : Cell → Bool) (base sheet : List Placed) (cells : List Cell) (c s : ℕ) → HasRooms base cells → list_any (λ x. p x && is_other sheet x) cells ≡ false
    → ((x : Cell) → is_cell_of c s x ≡ true → p x ≡ true) → is_named c s cells ≡ true → room_at c s base ≡ room_at c s sheet
none_other p base sheet [] c s h e passes named = cc
none_other p base sheet (x ∷ xs) c s h e passes named =
    let parts = or_parts (p x && is_other sheet x) (list_any (λ z. p z && is_other sheet z) xs) e in
    elim (cases_Bool (is_cell_of c s x)) [
      | inl y ↦ (
          let fine : is_other sheet x ≡ false = sym (ap (λ b. b && is_other sheet x) (passes x y)) ∙ parts.0 in
          let at = and_parts (x.course == c) (x.slot == s) y in
          let there : room_at x.course x.slot base ≡ room_at x.course x.slot sheet = sym h.0 ∙ same_cell x.room (room_at x.course x.slot sheet) fine in
          sym (ap₂ (λ d e. room_at d e base) (eqb-true x.course c at.0) (eqb-true x.slot s at.1)) ∙ there ∙ ap₂ (λ d e. room_at d e sheet) (eqb-true x.course c at.0) (eqb-true x.slot s at.1))
      | inr n ↦ none_other p base sheet xs c s h.1 parts.1 passes (rest (is_cell_of c s x) (is_named c s xs) named n)
    ]
  where
    rest : (a b : Bool) → (a || b) ≡ true → a ≡ false → b ≡ true
    rest true b k l = cc
    rest false b k l = k

left : (a b : Bool) → (a || b) ≡ true → b ≡ false → a ≡ true
left true b k l = refl
left false b k l = absurd (let bad : true ≡ false = sym k ∙ l in cc)

unnamed : (s : ℕ) (cells : List Cell) (o : Option ℕ) → is_none_or_named s cells o ≡ false → (c : ℕ) × (o ≡ Some c) × (is_named c s cells ≡ false)
unnamed s cells None e = cc
unnamed s cells (Some c) e = (c, refl, e)

module _ (v : Compared) (h : IsComparable v) where
  course_passes : (c s : ℕ) (x : Cell) → is_cell_of c s x ≡ true → (x.course == c) ≡ true
  course_passes c s x y = (and_parts (x.course == c) (x.slot == s) y).0

  slot_passes : (c s : ℕ) (x : Cell) → is_cell_of c s x ≡ true → (x.slot == s) ≡ true
  slot_passes c s x y = (and_parts (x.course == c) (x.slot == s) y).1

  -- the sheet differs from a recorded cell
  pub course_other : (c : ℕ) → has_other_in_course c v.sheet v.undo ≡ true → IsTrue false ↔ (course_row c (base_of v) ≡ course_row c v.sheet)
  course_other c e =
      some_other (λ x. x.course == c) (course_row c (base_of v) ≡ course_row c v.sheet) (base_of v) v.sheet v.undo h.records.rooms e
      (λ x y q. room_by_course_row (base_of v) v.sheet x.course x.slot (subst (λ d. course_row d (base_of v) ≡ course_row d v.sheet) (sym (eqb-true x.course c y)) q))

  pub slot_other : (s : ℕ) → has_other_in_slot s v.sheet v.undo ≡ true → IsTrue false ↔ (slot_row s (base_of v) ≡ slot_row s v.sheet)
  slot_other s e =
      some_other (λ x. x.slot == s) (slot_row s (base_of v) ≡ slot_row s v.sheet) (base_of v) v.sheet v.undo h.records.rooms e
      (λ x y q. room_by_slot_row v.problem (base_of v) v.sheet h.base h.sheet.timetable x.course x.slot (subst (λ d. slot_row d (base_of v) ≡ slot_row d v.sheet) (sym (eqb-true x.slot s y)) q))

  -- the sheet differs in a cell that is not recorded
  pub cell_other : (c s : ℕ) (P : Type 0) → (same_room (room_at c s v.present) (room_at c s v.sheet) || is_named c s v.undo) ≡ false → (P → room_at c s (base_of v) ≡ room_at c s v.sheet) → IsTrue false ↔ P
  cell_other c s P e same =
      let parts = or_parts (same_room (room_at c s v.present) (room_at c s v.sheet)) (is_named c s v.undo) e in
      differ P (room_at c s v.present) (room_at c s v.sheet) (ap not parts.0) (λ q. h.records.others c s parts.1 ∙ same q)

  -- a cell of a row in which the sheet differs from no recorded cell
  same_by : (p : Cell → Bool) (c s : ℕ) → list_any (λ x. p x && is_other v.sheet x) v.undo ≡ false → ((x : Cell) → is_cell_of c s x ≡ true → p x ≡ true)
      → (same_room (room_at c s v.present) (room_at c s v.sheet) || is_named c s v.undo) ≡ true → room_at c s (base_of v) ≡ room_at c s v.sheet
  same_by p c s none passes e = elim (cases_Bool (is_named c s v.undo)) [
    | inl y ↦ none_other p (base_of v) v.sheet v.undo c s h.records.rooms none passes y
    | inr n ↦ sym (h.records.others c s n) ∙ same_cell (room_at c s v.present) (room_at c s v.sheet) (ap not (left (same_room (room_at c s v.present) (room_at c s v.sheet)) (is_named c s v.undo) e n))
  ]

  pub same_in_course : (c s : ℕ) → has_other_in_course c v.sheet v.undo ≡ false → (same_room (room_at c s v.present) (room_at c s v.sheet) || is_named c s v.undo) ≡ true → room_at c s (base_of v) ≡ room_at c s v.sheet
  same_in_course c s none e = same_by (λ x. x.course == c) c s none (course_passes c s) e

  -- a room has one course now and another on the sheet, and a cell of theirs is not recorded
  same_now : (c s : ℕ) → is_named c s v.undo ≡ false → slot_row s (base_of v) ≡ slot_row s v.sheet → room_at c s v.present ≡ room_at c s v.sheet
  same_now c s n q = h.records.others c s n ∙ room_by_slot_row v.problem (base_of v) v.sheet h.base h.sheet.timetable c s q

  pub room_other : (s r : ℕ) → agrees_in_room s r v ≡ false → IsTrue false ↔ (slot_row s (base_of v) ≡ slot_row s v.sheet)
  room_other s r e =
      let parts = or_parts (same_room (holder_at s r v.present) (holder_at s r v.sheet)) (is_none_or_named s v.undo (holder_at s r v.present) && is_none_or_named s v.undo (holder_at s r v.sheet)) e in
      differ (slot_row s (base_of v) ≡ slot_row s v.sheet) (holder_at s r v.present) (holder_at s r v.sheet) (ap not parts.0) (same parts.1)
    where
      rest : (a b : Bool) → (a && b) ≡ false → a ≡ true → b ≡ false
      rest true b k l = k
      rest false b k l = cc

      same : (is_none_or_named s v.undo (holder_at s r v.present) && is_none_or_named s v.undo (holder_at s r v.sheet)) ≡ false → slot_row s (base_of v) ≡ slot_row s v.sheet → holder_at s r v.present ≡ holder_at s r v.sheet
      same k q = elim (cases_Bool (is_none_or_named s v.undo (holder_at s r v.present))) [
        | inl y ↦ (
            let there = unnamed s v.undo (holder_at s r v.sheet) (rest (is_none_or_named s v.undo (holder_at s r v.present)) (is_none_or_named s v.undo (holder_at s r v.sheet)) k y) in
            held_too v.problem there.0 s r v.sheet v.present h.sheet h.present there.1 (sym (same_now there.0 s there.2 q)) ∙ sym there.1)
        | inr n ↦ (
            let here = unnamed s v.undo (holder_at s r v.present) n in
            here.1 ∙ sym (held_too v.problem here.0 s r v.present v.sheet h.present h.sheet here.1 (same_now here.0 s here.2 q)))
      ]

  -- all rooms agree
  alike : (s r : ℕ) → agrees_in_room s r v ≡ true → (is_none_or_named s v.undo (holder_at s r v.present) && is_none_or_named s v.undo (holder_at s r v.sheet)) ≡ false → holder_at s r v.present ≡ holder_at s r v.sheet
  alike s r e n = same_cell (holder_at s r v.present) (holder_at s r v.sheet) (ap not (left (same_room (holder_at s r v.present) (holder_at s r v.sheet)) (is_none_or_named s v.undo (holder_at s r v.present) && is_none_or_named s v.undo (holder_at s r v.sheet)) e n))

  same_by_room : (c s : ℕ) → is_named c s v.undo ≡ false → ((r : ℕ) → r < room_count v.problem → agrees_in_room s r v ≡ true) → room_at c s v.present ≡ room_at c s v.sheet
  same_by_room c s n all = at (room_at c s v.present) (room_at c s v.sheet) refl refl
    where
      at : (a b : Option ℕ) → room_at c s v.present ≡ a → room_at c s v.sheet ≡ b → a ≡ b
      at None None here there = refl
      at (Some r) b here there =
          let holds : holder_at s r v.present ≡ Some c = held v.problem c s r v.present h.present here in
          let fits = there_fits v.problem c s r v.present h.present here in
          let same = alike s r (all r fits.2) (ap (λ o. is_none_or_named s v.undo o && is_none_or_named s v.undo (holder_at s r v.sheet)) holds ∙ ap (λ b. b && is_none_or_named s v.undo (holder_at s r v.sheet)) n) in
          sym (stands v.problem c s r v.sheet h.sheet.timetable (sym same ∙ holds)) ∙ there
      at None (Some r) here there =
          let holds : holder_at s r v.sheet ≡ Some c = held v.problem c s r v.sheet h.sheet there in
          let fits = there_fits v.problem c s r v.sheet h.sheet there in
          let same = alike s r (all r fits.2) (ap (λ o. is_none_or_named s v.undo (holder_at s r v.present) && is_none_or_named s v.undo o) holds ∙ ap (λ b. is_none_or_named s v.undo (holder_at s r v.present) && b) n ∙ no (is_none_or_named s v.undo (holder_at s r v.present))) in
          sym here ∙ stands v.problem c s r v.present h.present.timetable (same ∙ holds)
        where
          no : (b : Bool) → (b && false) ≡ false
          no true = refl
          no false = refl

  pub same_in_slot : (c s : ℕ) → has_other_in_slot s v.sheet v.undo ≡ false → ((r : ℕ) → r < room_count v.problem → agrees_in_room s r v ≡ true) → room_at c s (base_of v) ≡ room_at c s v.sheet
  same_in_slot c s none all = elim (cases_Bool (is_named c s v.undo)) [
    | inl y ↦ none_other (λ x. x.slot == s) (base_of v) v.sheet v.undo c s h.records.rooms none (slot_passes c s) y
    | inr n ↦ sym (h.records.others c s n) ∙ same_by_room c s n all
  ]
