-- An undo record: how it grows, and that it leads back to the snapshot.
use Rattle.std.proofs.Common.{◌≡◌, ℕ, Bool, true, false, not, cond, ◌||◌, ◌==◌, List, [], ◌∷◌, ◌++◌, map, Option, append-nil, append_assoc, refl, ◌∙◌, sym, ap, ap₂, arith, inl, inr}
use Rattle.std.specs.List.{filter, AllByRecursion as Each}
use Rattle.std.proofs.lemmas.Bool.{cases_Bool, or_right, or_parts, and_parts, eqb-true}
use Rattle.std.proofs.lemmas.Bool.Decides.{nat_tests}
use Rattle.std.proofs.lemmas.List.{map-append}
use Rattle.std.proofs.lemmas.List.Elements.{filter-append}
use Rattle.std.proofs.lemmas.List.Folds.{list_any-append}
use Rattle.std.proofs.lemmas.Map.Views.{any-filter_same}
use Rattle.ctt_problem.proofs.ListLaws.{any_mapped}
use Rattle.ctt_problem.specs.Problem.{Problem, course_count, slot_count}
use Rattle.ctt_problem.specs.Timetable.{IsTimetable}
use Rattle.ctt_problem.specs.declared.placed.Placed.{Placed}
use Rattle.ctt_board.specs.Changes.{room_at, room_by, apply, apply_all, ChangesFit}
use Rattle.ctt_board.specs.declared.cell.Cell.{Cell}
use Rattle.ctt_board.proofs.RoomLemmas.{rooms_after}
use Rattle.ctt_board.proofs.CellLemmas.{timetable_is, rows_same}
use Rattle.ctt_draft.specs.Drafts.{made}
use Rattle.ctt_draft.specs.DraftLaws.{UndoPutsBack}
use Rattle.ctt_draft.specs.Undo.{is_cell_of, is_named, first_named, found_in, recorded, all_cells, undo_of, put_back, Records, noted, all_noted}

-- naming the same place is symmetric
turned : (x y : Cell) → is_cell_of y.course y.slot x ≡ is_cell_of x.course x.slot y
turned x y = grind (arith, nat_tests)

-- a cell of another place is not filtered out
stays : (x : Cell) (c s : ℕ) → is_cell_of c s x ≡ false → (y : Cell) → is_cell_of c s y ≡ true → not (is_cell_of x.course x.slot y) ≡ true
stays x c s e y h = grind (arith, nat_tests)

pub first_names : (c s : ℕ) (cells : List Cell) → is_named c s (first_named cells) ≡ is_named c s cells
first_names c s [] = refl
first_names c s (x ∷ xs) = elim (cases_Bool (is_cell_of c s x)) [
  | inl y ↦ rw y refl
  | inr n ↦ rw n (any-filter_same (is_cell_of c s) (λ y. not (is_cell_of x.course x.slot y)) true (stays x c s n) (first_named xs) ∙ first_names c s xs)
]

-- one more cell
first_more : (xs : List Cell) (x : Cell) → first_named (xs ++ x ∷ []) ≡ cond (is_named x.course x.slot xs) (first_named xs) (first_named xs ++ x ∷ [])
first_more [] x = refl
first_more (y ∷ ys) x = ap (λ zs. y ∷ filter other zs) (first_more ys x) ∙ elim (cases_Bool (is_named x.course x.slot ys)) [
  | inl named ↦ rw (named, or_right (is_cell_of x.course x.slot y) true refl) refl
  | inr new ↦ rw new (ap (λ zs. y ∷ zs) (filter-append other (first_named ys) (x ∷ [])) ∙ elim (cases_Bool (is_cell_of x.course x.slot y)) [
    | inl same ↦ rw (same, turned x y ∙ same) (ap (λ zs. y ∷ zs) (append-nil (filter other (first_named ys))))
    | inr apart ↦ rw (apart, turned x y ∙ apart) refl
  ])
]
  where
    other : Cell → Bool
    other z = not (is_cell_of y.course y.slot z)

pub record_names : (base : List Placed) (c s : ℕ) (cells : List Cell) → is_named c s (recorded base cells) ≡ is_named c s cells
record_names base c s cells = any_mapped (is_cell_of c s) (found_in base) (first_named cells) ∙ first_names c s cells

-- the timetable agrees with the snapshot in all cells except these
abbrev pub SameBeside : List Placed → List Placed → List Cell → Type 0
SameBeside base t cells = (c s : ℕ) → is_named c s cells ≡ false → room_at c s t ≡ room_at c s base

module _ (base t : List Placed) where
  noted_is : (x : Cell) (named : List Cell) → SameBeside base t named → noted t x (recorded base named) ≡ recorded base (named ++ x ∷ [])
  noted_is x named same =
      ap (λ b. cond b (recorded base named) (recorded base named ++ found_in t x ∷ [])) (record_names base x.course x.slot named)
      ∙ elim (cases_Bool (is_named x.course x.slot named)) [
        | inl old ↦ rw old (sym (ap (map (found_in base)) (first_more named x ∙ ap (λ b. cond b (first_named named) (first_named named ++ x ∷ [])) old)))
        | inr new ↦ rw new (
            ap (λ o. recorded base named ++ record { course = x.course; slot = x.slot; room = o } ∷ []) (same x.course x.slot new)
            ∙ sym (map-append (found_in base) (first_named named) (x ∷ []))
            ∙ sym (ap (map (found_in base)) (first_more named x ∙ ap (λ b. cond b (first_named named) (first_named named ++ x ∷ [])) new)))
      ]

  unnamed_before : (named : List Cell) (x : Cell) → SameBeside base t named → SameBeside base t (named ++ x ∷ [])
  unnamed_before named x same c s e = same c s (or_parts (is_named c s named) (is_named c s (x ∷ [])) (sym (list_any-append (is_cell_of c s) named (x ∷ [])) ∙ e)).0

  -- the record after more cells are named
  pub all_noted_is : (xs named : List Cell) → SameBeside base t named → all_noted t xs (recorded base named) ≡ recorded base (named ++ xs)
  all_noted_is [] named same = ap (recorded base) (sym (append-nil named))
  all_noted_is (x ∷ xs) named same =
      ap (all_noted t xs) (noted_is x named same)
      ∙ all_noted_is xs (named ++ x ∷ []) (unnamed_before named x same)
      ∙ ap (recorded base) (append_assoc named (x ∷ []) xs)

-- recorded cells have the rooms of the snapshot
found_rooms : (base : List Placed) (cells : List Cell) → Each (λ (x : Cell). x.room ≡ room_at x.course x.slot base) (map (found_in base) cells)
found_rooms base [] = tt
found_rooms base (x ∷ xs) = (refl, found_rooms base xs)

-- a room after cells that do not include its own, and after cells that do
unnamed_by : (cells : List Cell) (c s : ℕ) (o : Option ℕ) → is_named c s cells ≡ false → room_by cells c s o ≡ o
unnamed_by [] c s o e = refl
unnamed_by (x ∷ xs) c s o e = (let parts = or_parts (is_cell_of c s x) (is_named c s xs) e in ap (λ b. room_by xs c s (cond b x.room o)) parts.0 ∙ unnamed_by xs c s o parts.1)

named_by : (base : List Placed) (cells : List Cell) (c s : ℕ) (o : Option ℕ) → Each (λ (x : Cell). x.room ≡ room_at x.course x.slot base) cells → is_named c s cells ≡ true → room_by cells c s o ≡ room_at c s base
named_by base [] c s o h e = cc
named_by base (x ∷ xs) c s o h e = elim (cases_Bool (is_named c s xs)) [
  | inl later ↦ named_by base xs c s (cond (is_cell_of c s x) x.room o) h.1 later
  | inr last ↦ (
      let here : is_cell_of c s x ≡ true = here_is (is_cell_of c s x) (is_named c s xs) e last in
      let parts = and_parts (x.course == c) (x.slot == s) here in
      unnamed_by xs c s (cond (is_cell_of c s x) x.room o) last
      ∙ ap (λ b. cond b x.room o) here
      ∙ h.0
      ∙ ap₂ (λ d e. room_at d e base) (eqb-true x.course c parts.0) (eqb-true x.slot s parts.1))
]
  where
    here_is : (a b : Bool) → (a || b) ≡ true → b ≡ false → a ≡ true
    here_is true b h k = refl
    here_is false b h k = absurd (let bad : true ≡ false = sym h ∙ k in cc)

-- putting the recorded cells back on t gives the rooms of the snapshot
pub room_back : (base t : List Placed) (cells : List Cell) (c s : ℕ) → Records base t cells → room_by cells c s (room_at c s t) ≡ room_at c s base
room_back base t cells c s h = elim (cases_Bool (is_named c s cells)) [
  | inl y ↦ named_by base cells c s (room_at c s t) h.rooms y
  | inr n ↦ unnamed_by cells c s (room_at c s t) n ∙ h.others c s n
]

pub put_back_is : (i : Problem) (base t : List Placed) (cells : List Cell) → IsTimetable i base → Records base t cells → put_back i cells t ≡ base
put_back_is i base t cells h records =
    rows_same (λ c s. room_by cells c s (room_at c s t)) (λ c s. room_at c s base) (slot_count i) (course_count i) (λ c s _ _. room_back base t cells c s records)
    ∙ sym (timetable_is i base h)

-- changes leave the cells that they do not name
all_unnamed : (i : Problem) (changes : List (List Cell)) (base : List Placed) → ChangesFit i changes base → SameBeside base (apply_all changes base) (all_cells changes)
all_unnamed i [] base h c s e = refl
all_unnamed i (x ∷ xs) base h c s e =
    let parts = or_parts (is_named c s x) (is_named c s (all_cells xs)) (sym (list_any-append (is_cell_of c s) x (all_cells xs)) ∙ e) in
    all_unnamed i xs (apply x base) h.1 c s parts.1 ∙ rooms_after x base h.0.cells_fit c s ∙ unnamed_by x c s (room_at c s base) parts.0

pub undo_records : (i : Problem) (changes : List (List Cell)) (base : List Placed) → ChangesFit i changes base → Records base (apply_all changes base) (undo_of base changes)
undo_records i changes base h = record {
  rooms = found_rooms base (first_named (all_cells changes));
  others = λ c s e. all_unnamed i changes base h c s (sym (record_names base c s (all_cells changes)) ∙ e);
}

all_cells-push : (xs : List (List Cell)) (x : List Cell) → all_cells (xs ++ x ∷ []) ≡ all_cells xs ++ x
all_cells-push [] x = append-nil x
all_cells-push (y ∷ ys) x = ap (λ zs. y ++ zs) (all_cells-push ys x) ∙ sym (append_assoc y (all_cells ys) x)

-- the record after one more change
undo_more : (i : Problem) (changes : List (List Cell)) (base : List Placed) (cells : List Cell) → ChangesFit i changes base → all_noted (apply_all changes base) cells (undo_of base changes) ≡ undo_of base (changes ++ cells ∷ [])
undo_more i changes base cells h =
    all_noted_is base (apply_all changes base) cells (all_cells changes) (all_unnamed i changes base h)
    ∙ ap (recorded base) (sym (all_cells-push changes cells))

-- the record after the cells of a call, if there are any
pub undo_made : (i : Problem) (changes : List (List Cell)) (base : List Placed) (cells : List Cell) → ChangesFit i changes base → all_noted (apply_all changes base) cells (undo_of base changes) ≡ undo_of base (changes ++ made cells)
undo_made i changes base [] h = ap (undo_of base) (sym (append-nil changes))
undo_made i changes base (x ∷ xs) h = undo_more i changes base (x ∷ xs) h

pub undo_puts_back : UndoPutsBack
undo_puts_back i base changes h fit = put_back_is i base (apply_all changes base) (undo_of base changes) h (undo_records i changes base fit)
