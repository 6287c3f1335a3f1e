-- A change fits exactly if the test says so.
use Rattle.std.proofs.Common.{◌≡◌, ℕ, ◌+◌, Bool, true, false, cond, leb, ltb, ◌&&◌, ◌==◌, List, [], ◌∷◌, length, Option, Some, None, is_some, is_none, refl, ◌∙◌, sym, ap, ap₂, subst, arith, inl, inr, ◌⊎◌}
use Rattle.std.specs.List.{filter, find, AllByRecursion as Each}
use Rattle.std.specs.Option.{option_map, option_or}
use Rattle.std.proofs.lemmas.Bool.{cases_Bool, and_parts, eq-eqb, leb-false, lt-leb, lt-ltb, ltb-true}
use Rattle.ctt_problem.specs.Lists.{Pairwise}
use Rattle.ctt_problem.specs.Problem.{Problem, course_of, course_count, slot_count, room_count, clash, is_unavailable, is_barred, is_blocked}
use Rattle.ctt_problem.specs.Timetable.{before, Fits, course_row, slot_row, with, without}
use Rattle.ctt_problem.specs.declared.placed.Placed.{Placed}
use Rattle.ctt_problem.proofs.TimetableLemmas.{Each-map}
use Rattle.ctt_rules.specs.Hard.{Lawful, IsAllowed, conflicts}
use Rattle.ctt_board.specs.Changes.{room_at, room_of, course_named, clash_at, holder_at, apply_at, apply, in_turn, CellFits, CellsFit, ChangeFits}
use Rattle.ctt_board.specs.Fitting.{already_there, course_full, unavailable, barred, blocked, clash_with, taken_by, obstacle_if, obstacle, is_known, can_place, cell_fits, fits, FitsAsTested}
use Rattle.ctt_board.specs.declared.cell.Cell.{Cell}
use Rattle.ctt_board.proofs.AfterLemmas.{one_in_row}
use Rattle.ctt_board.proofs.BetweenLemmas.{next_lawful, turn_rest, put_has, comes_fits}
use Rattle.ctt_board.proofs.HolderLemmas.{is_in, holder_is, free_else, find_nowhere, removed_back}
use Rattle.ctt_rules.proofs.ConflictLemmas.{clash_comm}
use Rattle.ctt_board.proofs.LawfulLemmas.{Free, with_lawful, without_lawful, eqb_comm}
use Rattle.ctt_board.proofs.MoreLemmas.{more_with}
use Rattle.ctt_board.proofs.RoomLemmas.{room_is, room_after}

-- what holds of those that pass, in the list of those
Each-to_filter : {X : Type 0} (Q : X → Type 0) (p : X → Bool) (xs : List X) → Each (λ x. p x ≡ true → Q x) xs → Each Q (filter p xs)
Each-to_filter Q p [] h = tt
Each-to_filter Q p (x ∷ xs) h = elim (cases_Bool (p x)) [ inl y ↦ rw y (h.0 y, Each-to_filter Q p xs h.1) | inr n ↦ rw n (Each-to_filter Q p xs h.1) ]

pub find_none : {X : Type 0} (p : X → Bool) (xs : List X) → find p xs ≡ None → Each (λ x. p x ≡ false) xs
find_none p [] h = tt
find_none {X = X} p (x ∷ xs) h = elim (cases_Bool (p x)) [
  | inl b ↦ (let h' : ◌≡◌ {A = Option X} (Some x) None = rw b at h in cc)
  | inr b ↦ (let h' : find p xs ≡ None = rw b at h in (b, find_none p xs h'))
]

no_lecture : (o : Option Placed) → is_some (room_of o) ≡ false → o ≡ None
no_lecture None h = refl
no_lecture (Some l) h = cc

no_named : (o : Option Placed) → course_named o ≡ None → o ≡ None
no_named None h = refl
no_named (Some l) h = cc

-- each test of placing a lecture fails
record AreClear (there full closed not_for not_then : Bool) (clashing taken : Option ℕ) : Type 0 where
  empty : there ≡ false
  fewer : full ≡ false
  available : closed ≡ false
  for_it : not_for ≡ false
  then_it : not_then ≡ false
  no_clash : clashing ≡ None
  room_free : taken ≡ None

are_clear : (there full closed not_for not_then : Bool) (clashing taken : Option ℕ) →
    is_none (option_or (obstacle_if there already_there) (option_or (obstacle_if full course_full) (option_or (option_or (obstacle_if closed unavailable) (option_or (obstacle_if not_for barred) (obstacle_if not_then blocked))) (option_or (option_map clash_with clashing) (option_map taken_by taken))))) ≡ true
    → AreClear there full closed not_for not_then clashing taken
are_clear true full closed not_for not_then clashing taken h = cc
are_clear false true closed not_for not_then clashing taken h = cc
are_clear false false true not_for not_then clashing taken h = cc
are_clear false false false true not_then clashing taken h = cc
are_clear false false false false true clashing taken h = cc
are_clear false false false false false (Some c) taken h = cc
are_clear false false false false false None (Some c) h = cc
are_clear false false false false false None None h = record { empty = refl; fewer = refl; available = refl; for_it = refl; then_it = refl; no_clash = refl; room_free = refl }

-- a lecture without an obstacle
pub free_there : (i : Problem) (t : List Placed) (c s r : ℕ) → is_none (obstacle i t c s r) ≡ true → Free i t c s r
free_there i t c s r told =
    let clear = are_clear (is_some (room_at c s t)) (leb (course_of i c).lectures (length (course_row c t))) (is_unavailable i c s) (is_barred i c r) (is_blocked i r s) (clash_at i c s t) (holder_at s r t) told in
    record {
      empty = clear.empty;
      absent = find_none (λ (y : Placed). y.slot == s) (course_row c t) (no_lecture (find (λ (y : Placed). y.slot == s) (course_row c t)) clear.empty);
      fewer = leb-false (course_of i c).lectures (length (course_row c t)) clear.fewer;
      allowed = (clear.available, clear.for_it, clear.then_it);
      no_clash = find_none (λ (y : Placed). clash i c y.course) (slot_row s t) (no_named (find (λ (y : Placed). clash i c y.course) (slot_row s t)) clear.no_clash);
      room_free = find_none (λ (y : Placed). y.room == r) (slot_row s t) (no_named (find (λ (y : Placed). y.room == r) (slot_row s t)) clear.room_free);
    }

module _ (i : Problem) (t : List Placed) (l : Placed) where
  -- what the test says of a lecture
  module _ (told : can_place i t l ≡ true) where
    parts : (is_known i l ≡ true) × (is_none (obstacle i t l.course l.slot l.room) ≡ true)
    parts = and_parts (is_known i l) (is_none (obstacle i t l.course l.slot l.room)) told

    known_fits : Fits i l
    known_fits =
        let known = and_parts (ltb l.course (course_count i)) (ltb l.slot (slot_count i) && ltb l.room (room_count i)) parts.0 in
        let rest = and_parts (ltb l.slot (slot_count i)) (ltb l.room (room_count i)) known.1 in
        (ltb-true l.course (course_count i) known.0, ltb-true l.slot (slot_count i) rest.0, ltb-true l.room (room_count i) rest.1)

    placed_free : Free i t l.course l.slot l.room
    placed_free = free_there i t l.course l.slot l.room parts.1

  -- a timetable that is lawful with it
  module _ (lawful : Lawful i (with l t)) (empty : is_some (room_at l.course l.slot t) ≡ false) where
    is_known_here : is_known i l ≡ true
    is_known_here = (let f = comes_fits i l t lawful in rw (lt-ltb l.course (course_count i) f.0, lt-ltb l.slot (slot_count i) f.1, lt-ltb l.room (room_count i) f.2) refl)

    fewer_here : leb (course_of i l.course).lectures (length (course_row l.course t)) ≡ false
    fewer_here =
        let own : length (course_row l.course (with l t)) ≡ 1 + length (course_row l.course t) = one_in_row l t (with l t) l.course (more_with l t) ∙ ap (λ b. cond {A = ℕ} b 1 0 + length (course_row l.course t)) (eq-eqb l.course l.course refl) in
        lt-leb (course_of i l.course).lectures (length (course_row l.course t)) (omega (arith, own, lawful.few l.course))

    allowed_here : IsAllowed i l
    allowed_here = put_has (IsAllowed i) l t lawful.allowed

    turned : (a b : Placed) → conflicts i a b ≡ false → conflicts i b a ≡ false
    turned a b h = ap₂ (λ x y. x && y) (eqb_comm b.slot a.slot) (clash_comm i b.course a.course) ∙ h

    none_here : (y : Placed) → conflicts i y l ≡ false → (y.slot == l.slot) ≡ true → clash i l.course y.course ≡ false
    none_here y h here = (let h' : clash i y.course l.course ≡ false = (rw here at h) in clash_comm i l.course y.course ∙ h')

    no_conflict : (xs : List Placed) → Pairwise (λ a b. conflicts i a b ≡ false) (with l xs) → Each (λ x. conflicts i x l ≡ false) xs
    no_conflict [] h = tt
    no_conflict (x ∷ xs) h = at (cases_Bool (before l x)) (no_conflict xs)
      where
        at : (before l x ≡ true) ⊎ (before l x ≡ false) → (Pairwise (λ a b. conflicts i a b ≡ false) (with l xs) → Each (λ z. conflicts i z l ≡ false) xs) → Each (λ z. conflicts i z l ≡ false) (x ∷ xs)
        at (inl y) more = (let h' : Pairwise (λ a b. conflicts i a b ≡ false) (l ∷ x ∷ xs) = (rw y at h) in Each-map (λ z. conflicts i l z ≡ false) (λ z. conflicts i z l ≡ false) (λ z k. turned l z k) (x ∷ xs) h'.0)
        at (inr n) more = (let h' : Pairwise (λ a b. conflicts i a b ≡ false) (x ∷ with l xs) = (rw n at h) in (put_has (λ z. conflicts i x z ≡ false) l xs h'.0, more h'.1))

    no_clash_here : clash_at i l.course l.slot t ≡ None
    no_clash_here =
        let clear = Each-to_filter (λ (y : Placed). clash i l.course y.course ≡ false) (λ y. y.slot == l.slot) t (Each-map (λ y. conflicts i y l ≡ false) (λ y. (y.slot == l.slot) ≡ true → clash i l.course y.course ≡ false) none_here t (no_conflict t lawful.conflict_free)) in
        ap course_named (find_nowhere (λ (y : Placed). clash i l.course y.course) (slot_row l.slot t) clear)

    nobody_here : holder_at l.slot l.room t ≡ None
    nobody_here =
        let mine : is_in l.slot l.room l ≡ true = rw (eq-eqb l.slot l.slot refl, eq-eqb l.room l.room refl) refl in
        holder_is l.slot l.room t ∙ ap course_named (free_else l l.slot l.room t lawful.rooms_apart mine)

    no_obstacle_here : is_none (obstacle i t l.course l.slot l.room) ≡ true
    no_obstacle_here = rw (empty, fewer_here, allowed_here.0, allowed_here.1, allowed_here.2, no_clash_here, nobody_here) refl

    can_place_here : can_place i t l ≡ true
    can_place_here = rw (is_known_here, no_obstacle_here) refl

-- a lecture of a lawful timetable can be placed again once it is removed
pub was_free : (i : Problem) (t : List Placed) (c s r : ℕ) → Lawful i t → room_at c s t ≡ Some r → Free i (without c s t) c s r
was_free i t c s r h e =
    let l : Placed = record { course = c; slot = s; room = r } in
    let left : List Placed = without c s t in
    let back : with l left ≡ t = removed_back c s r t h.timetable.ascending (sym (room_is c s t) ∙ e) in
    let empty : is_some (room_at c s left) ≡ false = ap is_some (room_after c s None c s t (ap is_some e)) ∙ rw (eq-eqb c c refl, eq-eqb s s refl) refl in
    free_there i left c s r (no_obstacle_here i left l (subst (Lawful i) (sym back) h) empty)

-- one cell
cell_to : (i : Problem) (t : List Placed) (c s : ℕ) (o : Option ℕ) → Lawful i t → cell_fits i t c s o ≡ true → CellFits t c s o × Lawful i (apply_at c s o t)
cell_to i t c s None h told = (told, without_lawful i t c s h)
cell_to i t c s (Some r) h told =
    let l : Placed = record { course = c; slot = s; room = r } in
    let free = placed_free i t l told in
    (free.empty, with_lawful i t c s r h (known_fits i t l told) free)

cell_from : (i : Problem) (t : List Placed) (c s : ℕ) (o : Option ℕ) → CellFits t c s o → Lawful i (apply_at c s o t) → cell_fits i t c s o ≡ true
cell_from i t c s None fit h = fit
cell_from i t c s (Some r) fit h = can_place_here i t (record { course = c; slot = s; room = r }) h fit

pub fits_to : (i : Problem) (cells : List Cell) (t : List Placed) → Lawful i t → fits i cells t ≡ true → ChangeFits i cells t
fits_to i [] t h told = record { cells_fit = tt; lawful = h }
fits_to i (x ∷ xs) t h told =
    let both = and_parts (cell_fits i t x.course x.slot x.room) (fits i xs (apply_at x.course x.slot x.room t)) told in
    let first = cell_to i t x.course x.slot x.room h both.0 in
    let rest = fits_to i xs (apply_at x.course x.slot x.room t) first.1 both.1 in
    record { cells_fit = (first.0, rest.cells_fit); lawful = rest.lawful }

fits_from : (i : Problem) (cells : List Cell) (t : List Placed) → Lawful i t → in_turn false cells ≡ true → CellsFit cells t → Lawful i (apply cells t) → fits i cells t ≡ true
fits_from i [] t h turn fit after = refl
fits_from i (x ∷ xs) t h turn fit after =
    let next = next_lawful i x xs t h turn fit after in
    rw (cell_from i t x.course x.slot x.room fit.0 next) (fits_from i xs (apply_at x.course x.slot x.room t) next (turn_rest x xs turn) fit.1 after)

pub fits_as_tested : FitsAsTested
fits_as_tested i cells t h turn = ((λ told. fits_to i cells t h told), (λ fit. fits_from i cells t h turn fit.cells_fit fit.lawful))
