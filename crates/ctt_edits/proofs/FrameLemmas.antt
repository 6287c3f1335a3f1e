-- The fault of an edit and its change depend on the rows that it reads.
use Rattle.std.proofs.Common.{◌≡◌, ℕ, Bool, true, ◌||◌, ◌==◌, List, [], ◌∷◌, Option, Some, None, is_none, refl, ◌∙◌, ap, ap₂}
use Rattle.std.specs.List.{filter, find}
use Rattle.std.specs.Option.{option_map}
use Rattle.std.proofs.lemmas.Bool.{eq-eqb, or_left, or_right}
use Rattle.ctt_problem.specs.Lists.{has}
use Rattle.ctt_problem.specs.Problem.{Problem}
use Rattle.ctt_problem.specs.Timetable.{course_row, slot_row, without}
use Rattle.ctt_problem.specs.declared.placed.Placed.{Placed}
use Rattle.ctt_board.specs.Changes.{room_of, room_at, cell, apply_at}
use Rattle.ctt_board.proofs.ApplyLemmas.{agree_at}
use Rattle.ctt_board.proofs.OrderLemmas.{InOrder, InOrder-without}
use Rattle.ctt_board.specs.Fitting.{obstacle_in}
use Rattle.ctt_edits.specs.Edits.{or_else, fault_if, as_fault, try_fault, try_room_of, change, edit_fault}
use Rattle.ctt_edits.specs.declared.edit.Edit.{Edit}
use Rattle.ctt_edits.specs.declared.edit.Edit.TheVariants.{Place, Move, Swap, Reroom, Drop}
use Rattle.ctt_edits.specs.declared.fault.EditFault.TheVariants.{NotPlaced, SameSlot, SameCourse}
use Rattle.ctt_edits.specs.Calls.{edit_courses, edit_slots}
use Rattle.ctt_edits.proofs.ReadLemmas.{AgreeOn}

has_first : (c : ℕ) (cs : List ℕ) → has c (c ∷ cs) ≡ true
has_first c cs = or_left (c == c) (has c cs) (eq-eqb c c refl)

has_second : (c d : ℕ) (cs : List ℕ) → has d (c ∷ d ∷ cs) ≡ true
has_second c d cs = or_right (c == d) (has d (d ∷ cs)) (has_first d cs)

-- the rows that an edit reads are equal
abbrev pub AgreeAt : Edit → List Placed → List Placed → Type 0
AgreeAt e t u = AgreeOn (λ c. has c (edit_courses e)) (λ s. has s (edit_slots e)) t u

pub room_same : (c s : ℕ) (t u : List Placed) → course_row c t ≡ course_row c u → room_at c s t ≡ room_at c s u
room_same c s t u e = ap (λ ls. room_of (find (λ l. l.slot == s) ls)) e

try_same : (i : Problem) (c s r : ℕ) (t u : List Placed) → course_row c t ≡ course_row c u → slot_row s t ≡ slot_row s u → try_fault i t c s r ≡ try_fault i u c s r
try_same i c s r t u e f = ap₂ (λ a b. option_map as_fault (obstacle_in i c s r a b)) e f

try_room_same : (i : Problem) (c s : ℕ) (r : Option ℕ) (t u : List Placed) → course_row c t ≡ course_row c u → slot_row s t ≡ slot_row s u → try_room_of i t c s r ≡ try_room_of i u c s r
try_room_same i c s None t u e f = refl
try_room_same i c s (Some r) t u e f = try_same i c s r t u e f

pub change_same : (e : Edit) (t u : List Placed) → AgreeAt e t u → change t e ≡ change u e
change_same (Place c s r) t u h = refl
change_same (Move c s s2 r) t u h = refl
change_same (Swap c s d s2) t u h =
    ap₂ (λ a b. cell c s None ∷ cell d s2 None ∷ cell c s2 a ∷ cell d s b ∷ [])
    (room_same d s2 t u (h.courses d (has_second c d []))) (room_same c s t u (h.courses c (has_first c (d ∷ []))))
change_same (Reroom c s r) t u h = refl
change_same (Drop c s) t u h = refl

-- a fault after the lecture that is placed is removed
moved_same : (i : Problem) (c s s2 r : ℕ) (t u : List Placed) → InOrder t → InOrder u → course_row c t ≡ course_row c u → slot_row s2 t ≡ slot_row s2 u → try_fault i (without c s t) c s2 r ≡ try_fault i (without c s u) c s2 r
moved_same i c s s2 r t u o q row slot = try_same i c s2 r (without c s t) (without c s u) (agree_at (λ l. l.course == c) c s None t u o q row) (agree_at (λ l. l.slot == s2) c s None t u o q slot)

swap_same : (i : Problem) (c s d s2 : ℕ) (t u : List Placed) → InOrder t → InOrder u → course_row c t ≡ course_row c u → course_row d t ≡ course_row d u → slot_row s t ≡ slot_row s u → slot_row s2 t ≡ slot_row s2 u → edit_fault i t (Swap c s d s2) ≡ edit_fault i u (Swap c s d s2)
swap_same i c s d s2 t u o q row_c row_d slot_s slot_s2 =
    let rc : room_at c s t ≡ room_at c s u = room_same c s t u row_c in
    let rd : room_at d s2 t ≡ room_at d s2 u = room_same d s2 t u row_d in
    let t' : List Placed = without d s2 (without c s t) in
    let u' : List Placed = without d s2 (without c s u) in
    let ot : InOrder t' = InOrder-without d s2 (without c s t) (InOrder-without c s t o) in
    let ou : InOrder u' = InOrder-without d s2 (without c s u) (InOrder-without c s u q) in
    let taken : (p : Placed → Bool) → filter p t ≡ filter p u → filter p t' ≡ filter p u' =
    λ p e. agree_at p d s2 None (without c s t) (without c s u) (InOrder-without c s t o) (InOrder-without c s u q) (agree_at p c s None t u o q e) in
    let put_once : (p : Placed → Bool) → filter p t ≡ filter p u → filter p (apply_at c s2 (room_at d s2 t) t') ≡ filter p (apply_at c s2 (room_at d s2 u) u') =
    λ p e. ap (λ r. filter p (apply_at c s2 r t')) rd ∙ agree_at p c s2 (room_at d s2 u) t' u' ot ou (taken p e) in
    let first_try : try_room_of i t' c s2 (room_at d s2 t) ≡ try_room_of i u' c s2 (room_at d s2 u) =
    ap (λ r. try_room_of i t' c s2 r) rd ∙ try_room_same i c s2 (room_at d s2 u) t' u' (taken (λ l. l.course == c) row_c) (taken (λ l. l.slot == s2) slot_s2) in
    let second_try : try_room_of i (apply_at c s2 (room_at d s2 t) t') d s (room_at c s t) ≡ try_room_of i (apply_at c s2 (room_at d s2 u) u') d s (room_at c s u) =
    ap (λ r. try_room_of i (apply_at c s2 (room_at d s2 t) t') d s r) rc ∙ try_room_same i d s (room_at c s u) (apply_at c s2 (room_at d s2 t) t') (apply_at c s2 (room_at d s2 u) u') (put_once (λ l. l.course == d) row_d) (put_once (λ l. l.slot == s) slot_s) in
    ap₂ (λ a b. or_else (fault_if a NotPlaced) (or_else (fault_if (c == d) SameCourse) b)) (ap₂ (λ a b. is_none a || is_none b) rc rd) (ap₂ or_else first_try second_try)

pub fault_same : (i : Problem) (e : Edit) (t u : List Placed) → InOrder t → InOrder u → AgreeAt e t u → edit_fault i t e ≡ edit_fault i u e
fault_same i (Place c s r) t u o q h = try_same i c s r t u (h.courses c (has_first c [])) (h.slots s (has_first s []))
fault_same i (Move c s s2 r) t u o q h =
    let row : course_row c t ≡ course_row c u = h.courses c (has_first c []) in
    ap₂ (λ a b. or_else (fault_if (is_none a) NotPlaced) (or_else (fault_if (s == s2) SameSlot) b))
    (room_same c s t u row) (moved_same i c s s2 r t u o q row (h.slots s2 (has_first s2 [])))
fault_same i (Swap c s d s2) t u o q h = swap_same i c s d s2 t u o q (h.courses c (has_first c (d ∷ []))) (h.courses d (has_second c d [])) (h.slots s (has_first s (s2 ∷ []))) (h.slots s2 (has_second s s2 []))
fault_same i (Reroom c s r) t u o q h =
    let row : course_row c t ≡ course_row c u = h.courses c (has_first c []) in
    ap₂ (λ a b. or_else (fault_if (is_none a) NotPlaced) b)
    (room_same c s t u row) (moved_same i c s s r t u o q row (h.slots s (has_first s [])))
fault_same i (Drop c s) t u o q h = ap (λ a. fault_if (is_none a) NotPlaced) (room_same c s t u (h.courses c (has_first c [])))
